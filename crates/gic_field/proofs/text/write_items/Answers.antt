use Rattle.std.proofs.Common.{ap}
use Rattle.gic_text.specs.Lines.{lines_text}
use Rattle.gic_report.specs.ItemText.{signed_lines}
use Rattle.gic_report.specs.VerdictText.{transformer_lines}
use Rattle.gic_report.proofs.Chained.{writes_as, lines_then, lines_stop}
use Rattle.gic_field.proofs.text.write_items.Goals as goal

pub returns-in_err-write_signed : goal.returns-in_err-write_signed
returns-in_err-write_signed g c =
    lines_stop (signed_lines c.args.case.now c.args.view.now) (transformer_lines c.args.threshold c.args.case.now.transformers c.args.view.now.effective)
    c.in_err-write_signed.ensures c.from_residual.ensures.1

pub returns : goal.returns
returns g c =
    lines_then (signed_lines c.args.case.now c.args.view.now) (transformer_lines c.args.threshold c.args.case.now.transformers c.args.view.now.effective) c.in_ok-write_signed.ensures
    (writes_as (ap (λ ts. lines_text (transformer_lines c.args.threshold ts c.args.view.now.effective)) c.transformers.ensures.value) c.write_transformers.ensures)
