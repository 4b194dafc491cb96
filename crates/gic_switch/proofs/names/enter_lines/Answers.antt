use Rattle.std.specs.HashMap.{get}
use Rattle.gic_case.specs.Names.{same}
use Rattle.gic_case.specs.declared.item.Line.{Line}
use Rattle.gic_model.specs.declared.parts.Item.TheVariants as items
use Rattle.gic_switch.proofs.NamedItems.{entered}
use Rattle.gic_switch.proofs.names.enter_lines.Goals as goal

pub loop-place-preserved : goal.loop-place-preserved
loop-place-preserved c =
    entered (λ (x : Line). x.name) (λ k. items.Line k) (get same c.args.named.now) (get same c.loop-place.named) (get same c.enter.new.named) c.args.lines.now c.loop-place.place c.index-lines-place.result
    c.loop-place-test.true c.index-lines-place.is c.loop-place.invariant c.in_ok-enter.ensures
