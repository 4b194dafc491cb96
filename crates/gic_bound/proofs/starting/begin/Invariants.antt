use Rattle.std.proofs.Common.{◌≡◌, ℕ, ◌<◌, cond, length, slice_index}
use Rattle.gic_model.specs.Standing.{is_live}
use Rattle.gic_net.specs.Net.{standing}
use Rattle.gic_bound.proofs.starting.begin.Given as goal

abbrev pub invariant-loop-node : goal.invariant-loop-node
invariant-loop-node l = record {
  count : length l.out ≡ l.net.network.nodes;
  each : (k : ℕ) → k < l.node → slice_index l.out k ≡ cond (is_live (standing l.net) k) 1 0;
}
