use Rattle.std.proofs.Common.{◌≡◌, ℕ, ◌+◌, ◌*◌, ◌^◌, ◌≤◌, ◌+ℤ◌, length, unsigned_abs}
use Rattle.std.specs.List.{sum_by}
use Rattle.gic_model.specs.Guess.{diagonal, residual_down, residual_up}
use Rattle.gic_model.specs.Sums.{sum_of}
use Rattle.gic_model.specs.Voltages.{number_at}
use Rattle.gic_net.specs.Net.{standing}
use Rattle.gic_sweep.specs.Passes.{part_down, part_up, left_at}
use Rattle.gic_sweep.proofs.NodeSums.{diagonal_part}
use Rattle.gic_sweep.proofs.passing.residuals_into.Given as goal

abbrev pub invariant-loop-place : goal.invariant-loop-place
invariant-loop-place l = record {
  low_count : length l.low ≡ l.net.network.nodes;
  high_count : length l.high ≡ l.net.network.nodes;
  low : (k : ℕ) → (number_at l.low k +ℤ sum_of (part_down (number_at l.volts) (number_at l.guesses) k) (left_at l.net l.place k)) ≡ residual_down (standing l.net) (number_at l.volts) (number_at l.guesses) k;
  high : (k : ℕ) → (number_at l.high k +ℤ sum_of (part_up (number_at l.volts) (number_at l.guesses) k) (left_at l.net l.place k)) ≡ residual_up (standing l.net) (number_at l.volts) (number_at l.guesses) k;
  low_small : (k : ℕ) → unsigned_abs (number_at l.low k) + sum_by diagonal_part (left_at l.net l.place k) * 2 ^ 86 ≤ diagonal (standing l.net) k * 2 ^ 86;
  high_small : (k : ℕ) → unsigned_abs (number_at l.high k) + sum_by diagonal_part (left_at l.net l.place k) * 2 ^ 86 ≤ diagonal (standing l.net) k * 2 ^ 86;
}
