use Rattle.std.proofs.Common.{rules, get_or, ◌≡◌}
use Rattle.gic_case.specs.declared.item.Transformer.{Transformer}
use Rattle.gic_fixed.specs.Ends.{Ends, ends_of}
use Rattle.gic_report.specs.SharedLines.{Words}
use Rattle.gic_report.specs.ItemText.{effective_line}
use Rattle.gic_report.proofs.Transformers.{next_transformer}
use Rattle.gic_report.proofs.Written.{goes_on, stops}
use Rattle.gic_report.proofs.items.write_effectives.Goals as goal

abbrev line : Transformer → Ends → Words
line t e = effective_line t.name e

pub loop-transformer-preserved : goal.loop-transformer-preserved
loop-transformer-preserved g c =
    let same : get_or c.args.transformers.now c.loop-transformer.transformer-index c.transformer-item.result ≡ c.transformer-item.result = search rules in
    let next = next_transformer line c.args.transformers.now c.loop-transformer.transformer-index c.transformer-item.result c.loop-transformer.cells c.take.new.self (ends_of c.take.result)
    (search rules) same c.take.ensures.cell c.take.ensures.left in
    record { written = goes_on c.loop-transformer.invariant.written next c.in_ok-write_effective.ensures }

pub returns-in_err-write_effective : goal.returns-in_err-write_effective
returns-in_err-write_effective g c =
    let same : get_or c.args.transformers.now c.loop-transformer.transformer-index c.transformer-item.result ≡ c.transformer-item.result = search rules in
    let next = next_transformer line c.args.transformers.now c.loop-transformer.transformer-index c.transformer-item.result c.loop-transformer.cells c.take.new.self (ends_of c.take.result)
    (search rules) same c.take.ensures.cell c.take.ensures.left in
    stops _ c.loop-transformer.invariant.written next c.in_err-write_effective.ensures c.from_residual.ensures.1
