use Rattle.std.proofs.Common.{◌≡◌, ◌++◌, ◌∙◌, ℕ, List, refl, ap, sym}
use Rattle.gic_case.specs.Lists.{Lists}
use Rattle.gic_case.specs.ZoneView.{ZoneView}
use Rattle.gic_text.specs.Lines.{line_text, lines_text}
use Rattle.gic_text.proofs.Joined.{lines_text-append}
use Rattle.gic_report.specs.SharedLines.{Words}
use Rattle.gic_report.specs.ItemText.{signed_lines}
use Rattle.gic_report.proofs.Chained.{writes_as, writes_then, writes_stop}
use Rattle.gic_study_text.specs.StudyText.{DetailView, detail_lines, detail_step_line, zone_lines}
use Rattle.gic_study_text.specs.Given.{lent}
use Rattle.gic_study_text.proofs.text.write_detail.Goals as goal

step : DetailView → List ℕ
step d = line_text (detail_step_line d.view.number d.view.time)

items : Lists → DetailView → List Words
items case d = signed_lines case d.view

-- the lines in the pieces in which they are written, with the zones that are passed
pieces : (case : Lists) (d : DetailView) (zones : List ZoneView) → zones ≡ case.zones
    → step d ++ (lines_text (zone_lines zones d.fields) ++ lines_text (items case d)) ≡ lines_text (detail_lines case d)
unfolding step items
pieces case d zones is =
    ap (λ zs. line_text (detail_step_line d.view.number d.view.time) ++ (lines_text (zone_lines zs d.fields) ++ lines_text (signed_lines case d.view))) is
    ∙ ap (λ l. line_text (detail_step_line d.view.number d.view.time) ++ l) (sym (lines_text-append (zone_lines case.zones d.fields) (signed_lines case d.view)))

pub returns-in_err-write_step : goal.returns-in_err-write_step
unfolding step items
returns-in_err-write_step g c =
    writes_as (pieces c.args.case.now (lent c.args.detail) c.args.case.now.zones refl)
    (writes_stop _ c.in_err-write_step.ensures c.from_residual.ensures.1)

pub returns-in_err-write_zones : goal.returns-in_err-write_zones
unfolding step items
returns-in_err-write_zones g c =
    writes_as (pieces c.args.case.now (lent c.args.detail) c.zones.result.now c.zones.ensures.value)
    (writes_then c.in_ok-write_step.ensures (writes_stop _ c.in_err-write_zones.ensures c.from_residual-in_err-write_zones.ensures.1))

pub returns : goal.returns
unfolding step items
returns g c =
    writes_as (pieces c.args.case.now (lent c.args.detail) c.zones.result.now c.zones.ensures.value)
    (writes_then c.in_ok-write_step.ensures (writes_then c.in_ok-write_zones.ensures c.write_signed.ensures))
