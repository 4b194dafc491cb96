use Rattle.std.proofs.Common.{◌≤◌, ◌+◌, ◌∙◌, sym, length, rules}
use Rattle.gic_list.proofs.ElementNames.{item_of, node_by_item}
use Rattle.gic_list.proofs.names.node_name.Goals as goal

pub item_name-requires : goal.item_name-requires
item_name-requires c = item_of c.args.case.now c.args.element.now c.requires.element

pub returns : goal.returns
returns c =
    let past : length c.args.case.now.substations + length c.args.case.now.buses ≤ c.args.node.0 = search rules in
    c.item_name.ensures ∙ sym (node_by_item c.args.case.now c.args.element.now c.args.node.0 c.buses.ensures.sound c.requires.element c.requires.node past)
