use Rattle.std.proofs.Common.{rules, ◌≡◌, List, map, ap, ◌∙◌}
use Rattle.std.proofs.lemmas.Simd.{map-map}
use Rattle.gic_text.specs.Lines.{lines_text}
use Rattle.gic_monitor.specs.declared.roster.Seat.{Seat}
use Rattle.gic_monitor.specs.declared.earth.SeatRange.{SeatRange}
use Rattle.gic_monitor.specs.Ranges.{range_line, range_text, fresh_range}
use Rattle.gic_monitor.proofs.earth.EarthMonitorMonitor.begin.Goals as goal

pub returns : goal.returns
returns c = λ views.
    let seats : c.seats.result.now ≡ c.args.roster.now.seats = search (rules, c.seats.ensures) in
    let fresh : c.in_ok-self.field-0.items ≡ map fresh_range c.seats.result.now = c.in_ok-self.ensures in
    ap (λ (rs : List SeatRange). range_text rs views) (fresh ∙ ap (λ (ss : List Seat). map fresh_range ss) seats)
    ∙ ap lines_text (map-map (range_line views) fresh_range c.args.roster.now.seats)
