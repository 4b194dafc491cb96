use Rattle.std.proofs.Common.{◌<◌, length, subst}
use Rattle.gic_model.specs.Limits.{IsEndWithin}
use Rattle.gic_net.proofs.Marked.{marked_at, marked_after}
use Rattle.gic_net.proofs.rows.gather_ends.Goals as goal

pub gather-requires : goal.gather-requires
gather-requires c =
    marked_at c.args.list.now c.args.opened.now c.args.rows.now c.args.element.from.0 c.index-rows-element.result c.requires.within.from_node
    (c.requires.marked c.args.element.from.0 c.requires.within.from_node)

pub gather-requires-in-Node : goal.gather-requires-in-Node
gather-requires-in-Node c =
    let within : c.in-Node.node.0 < length c.args.rows.now = subst (IsEndWithin (length c.args.rows.now)) c.in-Node.is c.requires.within.to_end in
    marked_after c.args.list.now c.args.opened.now c.args.rows.now c.args.element.from.0 c.in-Node.node.0 c.gather.new.self c.index-rows-node.result c.index-rows-element.result
    c.requires.within.from_node within c.gather.ensures c.requires.marked
