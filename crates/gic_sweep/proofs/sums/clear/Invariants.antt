use Rattle.std.proofs.Common.{◌≡◌, ℕ, ◌<◌, pos, length}
use Rattle.gic_model.specs.Voltages.{number_at}
use Rattle.gic_sweep.proofs.sums.clear.Given as goal

abbrev pub invariant-loop-i : goal.invariant-loop-i
invariant-loop-i l = record {
  same_length : length l.sums ≡ length l.initial.sums;
  sums : (k : ℕ) → k < l.i → number_at l.sums k ≡ pos 0;
}
