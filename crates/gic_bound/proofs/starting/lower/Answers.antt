use Rattle.std.proofs.Common.{◌≡◌, ℕ, ◌-◌, max, slice_index, arith}
use Rattle.gic_model.proofs.Ends.{standing_within}
use Rattle.gic_net.specs.Net.{standing, stands}
use Rattle.gic_bound.specs.Starting.{lowered}
use Rattle.gic_bound.proofs.Held.{entries_by, lowered_range}
use Rattle.gic_bound.proofs.starting.lower.Goals as goal

pub returns-clause-lowered : goal.returns-clause-lowered
returns-clause-lowered c =
    let net = c.args.net.now in
    entries_by net.network.nodes (standing net) (standing_within net.network (stands net) c.nodes-node-end.ensures.limits) (λ k. max (slice_index c.args.out.now k - c.args.step) 1) c.loop-node.out c.loop-node.invariant.count
    (λ k h. c.loop-node.invariant.before k (omega (arith, h, c.nodes-node-end.ensures.value, c.loop-node-test.false, c.loop-node.auto.node-end)))

pub returns-clause-range : goal.returns-clause-range
returns-clause-range c =
    let net = c.args.net.now in
    let is : (k : ℕ) → slice_index c.loop-node.out k ≡ lowered (standing net) c.args.step (slice_index c.args.out.now) k =
    entries_by net.network.nodes (standing net) (standing_within net.network (stands net) c.nodes-node-end.ensures.limits) (λ k. max (slice_index c.args.out.now k - c.args.step) 1) c.loop-node.out c.loop-node.invariant.count
    (λ k h. c.loop-node.invariant.before k (omega (arith, h, c.nodes-node-end.ensures.value, c.loop-node-test.false, c.loop-node.auto.node-end))) in
    lowered_range (standing net) c.args.step (slice_index c.args.out.now) (slice_index c.loop-node.out) c.is_capped.ensures is
