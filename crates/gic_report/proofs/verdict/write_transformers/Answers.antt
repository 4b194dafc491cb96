use Rattle.std.proofs.Common.{rules, All, get_or, subst, sym, ◌≡◌}
use Rattle.gic_fixed.specs.Ends.{ends_of}
use Rattle.gic_view.specs.Absolute.{HasAbsolute}
use Rattle.gic_report.specs.VerdictText.{transformer_line}
use Rattle.gic_report.proofs.Transformers.{first_absolute, later_absolute, next_transformer}
use Rattle.gic_report.proofs.Written.{goes_on, stops}
use Rattle.gic_report.proofs.verdict.write_transformers.Goals as goal

pub write_transformer-requires : goal.write_transformer-requires
write_transformer-requires g c = subst HasAbsolute (sym c.take.ensures.cell) (first_absolute c.loop-transformer.cells c.loop-transformer.invariant.absolutes)

pub loop-transformer-preserved : goal.loop-transformer-preserved
loop-transformer-preserved g c =
    let same : get_or c.args.transformers.now c.loop-transformer.transformer-index c.transformer-item.result ≡ c.transformer-item.result = search rules in
    let next = next_transformer (transformer_line c.args.threshold) c.args.transformers.now c.loop-transformer.transformer-index c.transformer-item.result c.loop-transformer.cells c.take.new.self
    (ends_of c.take.result) (search rules) same c.take.ensures.cell c.take.ensures.left in
    record {
      written = goes_on c.loop-transformer.invariant.written next c.in_ok-write_transformer.ensures;
      absolutes = subst (All HasAbsolute) (sym c.take.ensures.left) (later_absolute c.loop-transformer.cells c.loop-transformer.invariant.absolutes);
    }

pub returns-in_err-write_transformer : goal.returns-in_err-write_transformer
returns-in_err-write_transformer g c =
    let same : get_or c.args.transformers.now c.loop-transformer.transformer-index c.transformer-item.result ≡ c.transformer-item.result = search rules in
    let next = next_transformer (transformer_line c.args.threshold) c.args.transformers.now c.loop-transformer.transformer-index c.transformer-item.result c.loop-transformer.cells c.take.new.self
    (ends_of c.take.result) (search rules) same c.take.ensures.cell c.take.ensures.left in
    stops _ c.loop-transformer.invariant.written next c.in_err-write_transformer.ensures c.from_residual.ensures.1
