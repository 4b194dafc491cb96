use Rattle.std.proofs.Common.{slice_index, arith}
use Rattle.std.proofs.lemmas.List.{get_or_past}
use Rattle.gic_model.proofs.Ends.{standing_within}
use Rattle.gic_net.specs.Net.{standing, stands}
use Rattle.gic_bound.proofs.Rising.{starts_under}
use Rattle.gic_bound.proofs.starting.begin.Goals as goal

pub returns-clause-under : goal.returns-clause-under
returns-clause-under c =
    let net = c.args.net.now in
    let i = c.loop-node.invariant in
    let end = c.nodes-node-end.ensures.value in
    starts_under net.network.nodes (standing net) (standing_within net.network (stands net) c.nodes-node-end.ensures.limits) (slice_index c.loop-node.out)
    (λ k h. i.each k (omega (arith, h, end, c.loop-node-test.false, c.loop-node.auto.node-end)))
    (λ k h. get_or_past c.loop-node.out k 0 (omega (arith, h, i.count)))
