use Rattle.std.proofs.Common.{rules, ◌≡◌, ℕ, List, map, ap, ◌∙◌, zero-add}
use Rattle.std.specs.List.{enumerate_from}
use Rattle.std.proofs.lemmas.Simd.{map-map}
use Rattle.gic_text.specs.Lines.{lines_text}
use Rattle.gic_view.specs.View.{View}
use Rattle.gic_monitor.specs.declared.roster.Rated.{Rated}
use Rattle.gic_monitor.specs.declared.dwell.Tally.{Tally}
use Rattle.gic_monitor.specs.DwellText.{unit_line}
use Rattle.gic_monitor.specs.Tallies.{tally_line, tally_text, fresh_tally}
use Rattle.gic_monitor.proofs.dwell.DwellMonitorMonitor.begin.Goals as goal

-- a unit of which no view was counted has the line of the unit
fresh_lines : (threshold : ℕ) (views : List View) (units : List (ℕ × Rated)) →
    map (tally_line threshold views) (map fresh_tally units) ≡ map (unit_line threshold views) units
fresh_lines threshold views units = simp (map-map, zero-add)

pub returns : goal.returns
returns c = λ views.
    let units : c.units.result.now ≡ c.args.roster.now.units = search (rules, c.units.ensures) in
    let threshold : c.threshold-self.result ≡ c.args.roster.now.threshold = search (rules, c.threshold-self.ensures) in
    let fresh : c.in_ok-self.field-0.items ≡ map fresh_tally (enumerate_from 0 c.units.result.now) = c.in_ok-self.ensures in
    ap (λ (t : ℕ). tally_text t c.in_ok-self.field-0.items views) threshold
    ∙ ap (λ (ts : List Tally). tally_text c.args.roster.now.threshold ts views) (fresh ∙ ap (λ (us : List Rated). map fresh_tally (enumerate_from 0 us)) units)
    ∙ ap lines_text (fresh_lines c.args.roster.now.threshold views (enumerate_from 0 c.args.roster.now.units))
