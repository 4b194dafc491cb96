use Rattle.std.proofs.Common.{◌≡◌, ℕ, ◌<◌, length, slice_index}
use Rattle.gic_model.specs.Voltages.{number_at}
use Rattle.gic_net.specs.Net.{standing}
use Rattle.gic_enclose.specs.Ends.{potential_ends}
use Rattle.gic_enclose.specs.Round.{IsRoundGuess}
use Rattle.gic_enclose.proofs.enclosing.enclose_wide.Given as goal

abbrev pub invariant-loop-node : goal.invariant-loop-node
invariant-loop-node l = record {
  round : (k : ℕ) → k < l.node → IsRoundGuess (standing l.net) (number_at l.solver) (slice_index l.bound) l.reach k (potential_ends l.out k);
  same_length : length l.out ≡ length l.fn.out;
}
