use Rattle.std.proofs.Common.{◌≡◌, ℕ, ◌<◌, ◌≤◌, length, slice_index, sum, IsTrue, IsFalse}
use Rattle.gic_bound.specs.Caps.{cap_entry}
use Rattle.gic_net.specs.Net.{standing}
use Rattle.gic_bound.specs.Starting.{IsUnderHeld}
use Rattle.gic_bound.proofs.Rising.{IsEnough}
use Rattle.gic_bound.proofs.lifting.raise_all.Given as goal

abbrev pub invariant-loop-node : goal.invariant-loop-node
invariant-loop-node l = record {
  count : length l.out ≡ l.net.network.nodes;
  under : IsUnderHeld (standing l.net) (slice_index l.fn.out) (cap_entry (standing l.net) l.cap) (slice_index l.out);
  enough : IsFalse l.raised → (k : ℕ) → k < l.node → IsEnough (standing l.net) (cap_entry (standing l.net) l.cap) (slice_index l.out) k;
  higher : IsTrue l.raised → sum l.fn.out < sum l.out;
  not_lower : IsFalse l.raised → sum l.fn.out ≤ sum l.out;
}
