use Rattle.std.proofs.Common.{arith}
use Rattle.gic_net.proofs.Stored.{has_is, has_not}
use Rattle.gic_net.proofs.item_index.has_element.Goals as goal

pub returns-then-number-len-clause-value : goal.returns-then-number-len-clause-value
returns-then-number-len-clause-value c =
    has_is c.args.list.now c.args.index.now.first.items c.args.index.now.next.items c.args.number c.index.result.now c.requires (omega (arith, c.len.ensures)) c.index.ensures

pub returns-else-number-len-clause-value : goal.returns-else-number-len-clause-value
returns-else-number-len-clause-value c =
    has_not c.args.list.now c.args.index.now.first.items c.args.index.now.next.items c.args.number c.len.result c.requires (omega (arith, c.len.ensures)) c.if-number-len.false
