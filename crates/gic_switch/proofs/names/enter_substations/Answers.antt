use Rattle.std.specs.HashMap.{get}
use Rattle.gic_case.specs.Names.{same}
use Rattle.gic_case.specs.declared.item.Substation.{Substation}
use Rattle.gic_model.specs.declared.parts.Item.TheVariants as items
use Rattle.gic_switch.proofs.NamedItems.{entered}
use Rattle.gic_switch.proofs.names.enter_substations.Goals as goal

pub loop-place-preserved : goal.loop-place-preserved
loop-place-preserved c =
    entered (λ (x : Substation). x.name) (λ k. items.Ground k) (get same c.args.named.now) (get same c.loop-place.named) (get same c.enter.new.named) c.args.substations.now c.loop-place.place c.index-substations-place.result
    c.loop-place-test.true c.index-substations-place.is c.loop-place.invariant c.in_ok-enter.ensures
