use Rattle.std.proofs.Common.{ap, ◌∙◌}
use Rattle.gic_text.specs.Lines.{lines_text}
use Rattle.gic_volts.specs.VoltsText.{volts_report}
use Rattle.gic_stand.specs.Needs.{Nothing}
use Rattle.gic_stand.proofs.Served.{served, met_nothing}
use Rattle.gic_stand.specs.Standing.{steps_of}
use Rattle.gic_volts.specs.RightVolts.{IsRightVolts}
use Rattle.gic_volts.proofs.mode.volts.Goals as goal

pub returns : goal.returns
returns g c =
    served Nothing c.args.inputs.now.case (steps_of c.args.inputs.now) (IsRightVolts c.args.inputs.now) _ _ _ c.write_lines-writing.result c.ended.result
    (met_nothing (steps_of c.args.inputs.now)) (ap (λ l. lines_text (volts_report c.args.inputs.now.case.lines c.args.inputs.now.question.north c.args.inputs.now.question.east l)) (c.deref.ensures.value ∙ c.requires)) c.write_lines-writing.ensures.all c.write_lines-writing.ensures.part c.write_lines-writing.ensures.cause c.ended.ensures
