use Rattle.std.proofs.Common.{◌≡◌, ◌≤◌, length, slice_index, sum}
use Rattle.gic_bound.specs.Caps.{cap_entry}
use Rattle.gic_net.specs.Net.{standing}
use Rattle.gic_bound.specs.Starting.{IsUnderHeld}
use Rattle.gic_bound.proofs.lifting.follow.Given as goal

abbrev pub invariant-loop-looked : goal.invariant-loop-looked
invariant-loop-looked l = record {
  nodes : length l.out ≡ l.net.network.nodes;
  under : IsUnderHeld (standing l.net) (slice_index l.fn.out) (cap_entry (standing l.net) l.cap) (slice_index l.out);
  not_lower : sum l.fn.out ≤ sum l.out;
  few : l.count ≤ length l.waiting;
}
