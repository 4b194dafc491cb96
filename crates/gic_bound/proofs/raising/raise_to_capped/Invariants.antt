use Rattle.std.proofs.Common.{◌≡◌, length, slice_index}
use Rattle.gic_net.specs.Net.{standing}
use Rattle.gic_bound.specs.Starting.{IsInRange}
use Rattle.gic_bound.proofs.raising.raise_to_capped.Given as goal

abbrev pub invariant-loop : goal.invariant-loop
invariant-loop l = record {
  count : length l.out ≡ l.net.network.nodes;
  range : IsInRange (standing l.net) (slice_index l.out);
}
