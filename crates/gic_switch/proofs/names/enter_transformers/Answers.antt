use Rattle.std.specs.HashMap.{get}
use Rattle.gic_case.specs.Names.{same}
use Rattle.gic_case.specs.declared.item.Transformer.{Transformer}
use Rattle.gic_model.specs.declared.parts.Item.TheVariants as items
use Rattle.gic_switch.proofs.NamedItems.{entered}
use Rattle.gic_switch.proofs.names.enter_transformers.Goals as goal

pub loop-place-preserved : goal.loop-place-preserved
loop-place-preserved c =
    entered (λ (x : Transformer). x.name) (λ k. items.Transformer k) (get same c.args.named.now) (get same c.loop-place.named) (get same c.enter.new.named) c.args.transformers.now c.loop-place.place c.index-transformers-place.result
    c.loop-place-test.true c.index-transformers-place.is c.loop-place.invariant c.in_ok-enter.ensures
