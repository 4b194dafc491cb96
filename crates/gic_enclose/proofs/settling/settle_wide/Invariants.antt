use Rattle.std.proofs.Common.{◌≡◌, ℕ, ℤ, ◌+◌, ◌*◌, ◌-◌, ◌^◌, ◌≤◌, length, slice_index}
use Rattle.gic_model.specs.Voltages.{number_at}
use Rattle.gic_net.specs.Net.{standing}
use Rattle.gic_enclose.specs.Drive.{AreRoughPotentials}
use Rattle.gic_enclose.specs.Near.{AreNearGuesses}
use Rattle.gic_enclose.proofs.settling.settle_wide.Given as goal

abbrev pub invariant-loop-phase : goal.invariant-loop-phase
invariant-loop-phase g l = record {
  near : (potential : ℕ → ℤ) × AreRoughPotentials (standing l.net) (number_at l.volts) potential × (x : ℕ → ℤ) × AreNearGuesses (standing l.net) (number_at l.volts) potential (slice_index l.bound) (8192 * 2 ^ (98 - l.phase)) x (number_at l.solver);
  same_length : length l.solver ≡ length l.fn.solver;
  ticks : l.steps ≤ l.fn.steps + 5 + 8192 * l.phase;
}

abbrev pub invariant-loop-turn : goal.invariant-loop-turn
invariant-loop-turn g l = record {
  near : (potential : ℕ → ℤ) × AreRoughPotentials (standing l.net) (number_at l.volts) potential × (x : ℕ → ℤ) × AreNearGuesses (standing l.net) (number_at l.volts) potential (slice_index l.bound) (8192 * 2 ^ (98 - l.phase) - l.turn * 2 ^ (97 - l.phase)) x (number_at l.solver);
  same_length : length l.solver ≡ length l.fn.solver;
  ticks : l.steps ≤ l.fn.steps + 5 + 8192 * l.phase + l.turn;
}
