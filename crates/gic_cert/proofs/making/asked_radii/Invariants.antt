use Rattle.std.proofs.Common.{◌≡◌, ℕ, ◌<◌, ◌*◌, length, slice_index}
use Rattle.gic_cert.proofs.making.asked_radii.Given as goal

abbrev pub invariant-loop-node : goal.invariant-loop-node
invariant-loop-node l = record {
  count : length l.list.items ≡ l.nodes;
  each : (k : ℕ) → k < l.node → slice_index l.list.items k ≡ slice_index l.vector k * l.step;
}
