use Rattle.std.proofs.Common.{◌∙◌, sym}
use Rattle.gic_switch.proofs.ItemsWithin.{item_within}
use Rattle.gic_switch.proofs.item.item_in.Goals as goal

pub returns-clause-within : goal.returns-clause-within
returns-clause-within c =
    rw c.switched_item.ensures (item_within c.args.case.now c.args.action c.args.text.now c.in_ok-item.item (sym c.named.ensures ∙ c.in_ok-item.was))
