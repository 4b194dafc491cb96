use Rattle.std.proofs.Common.{rules, get_or, ◌≡◌}
use Rattle.gic_fixed.specs.Ends.{ends_of}
use Rattle.gic_report.specs.VerdictText.{absolute_line}
use Rattle.gic_report.proofs.Transformers.{next_transformer}
use Rattle.gic_report.proofs.Written.{goes_on, stops}
use Rattle.gic_report.proofs.verdict.write_absolutes.Goals as goal

pub loop-transformer-preserved : goal.loop-transformer-preserved
loop-transformer-preserved g c =
    let same : get_or c.args.transformers.now c.loop-transformer.transformer-index c.transformer-item.result ≡ c.transformer-item.result = search rules in
    let next = next_transformer (absolute_line c.args.threshold) c.args.transformers.now c.loop-transformer.transformer-index c.transformer-item.result c.loop-transformer.cells c.take.new.self
    (ends_of c.take.result) (search rules) same c.take.ensures.cell c.take.ensures.left in
    record { written = goes_on c.loop-transformer.invariant.written next c.in_ok-write_absolute.ensures }

pub returns-in_err-write_absolute : goal.returns-in_err-write_absolute
returns-in_err-write_absolute g c =
    let same : get_or c.args.transformers.now c.loop-transformer.transformer-index c.transformer-item.result ≡ c.transformer-item.result = search rules in
    let next = next_transformer (absolute_line c.args.threshold) c.args.transformers.now c.loop-transformer.transformer-index c.transformer-item.result c.loop-transformer.cells c.take.new.self
    (ends_of c.take.result) (search rules) same c.take.ensures.cell c.take.ensures.left in
    stops _ c.loop-transformer.invariant.written next c.in_err-write_absolute.ensures c.from_residual.ensures.1
