use Rattle.std.proofs.Common.{◌≡◌, ◌≤◌, length, slice_index}
use Rattle.gic_model.specs.Bound.{IsCappedVector}
use Rattle.gic_net.specs.Net.{standing}
use Rattle.gic_bound.proofs.raising.sink.Given as goal

abbrev pub invariant-loop : goal.invariant-loop
invariant-loop l = record {
  count : length l.out ≡ l.net.network.nodes;
  other : length l.other ≡ l.net.network.nodes;
  capped : IsCappedVector (standing l.net) (slice_index l.out);
  some : 1 ≤ l.step;
  few : l.step ≤ 8;
}
