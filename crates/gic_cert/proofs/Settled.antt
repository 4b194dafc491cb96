-- How small the checked step of settled guesses is.
use Rattle.std.proofs.Common.{◌≡◌, ℕ, zero, suc, ◌+◌, ◌*◌, ◌^◌, ◌<◌, ◌≤◌, Bool, true, false, cond, ℤ, pos, ◌*ℤ◌, ◌-ℤ◌, ◌≤ℤ◌, unsigned_abs, length, max, arith, refl, ⊎_elim, mul-le-mul_right}
use Rattle.std.specs.Int.{div_ceil}
use Rattle.std.proofs.lemmas.Grind.{div_ceil_times}
use Rattle.std.proofs.lemmas.Bool.{cases_lt}
use Rattle.gic_model.specs.Limits.{IsWithinLimits}
use Rattle.gic_model.specs.Standing.{is_live, IsLive}
use Rattle.gic_model.specs.Guess.{least_conductance, residual_down, residual_up, ohms_at, conductance, diagonal, IsSettled, HoldsResidual}
use Rattle.gic_model.proofs.Ends.{standing_within, live_within}
use Rattle.gic_net.specs.Net.{NetView, standing, stands, row_at}
use Rattle.gic_sweep.specs.Residuals.{most_reach}
use Rattle.gic_sweep.proofs.Closeness.{close_at}
use Rattle.gic_sweep.proofs.Conductances.{conductance_most, conductance_some}
use Rattle.gic_cert.specs.Step.{most_residual, step_asked_at, checked_step}

ceil_least : (a g c : ℕ) → 0 < g → a ≤ c * g → div_ceil a g ≤ c
ceil_least a g c some h =
    ⊎_elim
    (λ more.
    let times : (c + 1) * g ≤ div_ceil a g * g = mul-le-mul_right g (omega (arith, more)) in
    absurd (omega (arith, times, h, (div_ceil_times a g some).1)))
    (λ less. less)
    (cases_lt c (div_ceil a g))

max_least : (a b c : ℕ) → a ≤ c → b ≤ c → max a b ≤ c
max_least a b c h k = omega (arith, h, k)

max_times : (a b c : ℕ) → 4096 * a ≤ c → 4096 * b ≤ c → 4096 * max a b ≤ c
max_times a b c h k = omega (arith, h, k)

module _ (net : NetView) (volts x : ℕ → ℤ) (limits : IsWithinLimits net.network) (settled : IsSettled (standing net) volts x)
    (holds : (k : ℕ) → HoldsResidual (standing net) volts x k (residual_down (standing net) volts x k) (residual_up (standing net) volts x k))
    (narrow : (k : ℕ) → (residual_up (standing net) volts x k -ℤ residual_down (standing net) volts x k) ≤ℤ pos (length (row_at net k)))
    (least : (k : ℕ) → (pos (2 ^ 20) *ℤ conductance (standing net) k) ≤ℤ pos (ohms_at (standing net) k * diagonal (standing net) k)) where
  residual_close : (k : ℕ) → IsLive (standing net) k → 4096 * most_residual (standing net) volts x k ≤ (most_reach (2 ^ 18)) * least_conductance (standing net) k
  residual_close k live =
      let down = residual_down (standing net) volts x k in
      let up = residual_up (standing net) volts x k in
      let both = close_at net k limits volts x down up (holds k) (narrow k) (least k) (2 ^ 18) (settled k live) in
      max_times (unsigned_abs down) (unsigned_abs up) ((most_reach (2 ^ 18)) * least_conductance (standing net) k) both.0 both.1

  pub residual_small : (k : ℕ) → IsLive (standing net) k → most_residual (standing net) volts x k ≤ 2 ^ 47
  residual_small k live =
      let inside = live_within net.network.nodes (standing net) k (standing_within net.network (stands net) limits) live in
      omega (arith, residual_close k live, conductance_most net k limits inside)

  step_small : (k : ℕ) → IsLive (standing net) k → step_asked_at (standing net) volts x k ≤ (most_reach (2 ^ 18))
  step_small k live = ceil_least (4096 * most_residual (standing net) volts x k) (least_conductance (standing net) k) (most_reach (2 ^ 18)) (conductance_some net k limits live) (residual_close k live)

  or_nothing : (k : ℕ) (b : Bool) → is_live (standing net) k ≡ b → cond b (step_asked_at (standing net) volts x k) 0 ≤ (most_reach (2 ^ 18))
  or_nothing k true live = step_small k live
  or_nothing k false dead = omega arith

  pub steps_small : (n : ℕ) → checked_step (standing net) volts x n ≤ (most_reach (2 ^ 18))
  steps_small zero = omega arith
  steps_small (suc n) = max_least (checked_step (standing net) volts x n) _ (most_reach (2 ^ 18)) (steps_small n) (or_nothing n (is_live (standing net) n) refl)
