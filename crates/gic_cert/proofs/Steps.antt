-- The checked step is at least the step of each live node.
use Rattle.std.proofs.Common.{◌≡◌, ℕ, zero, suc, ◌*◌, ◌<◌, ◌≤◌, true, cond, List, ℤ, pos, ◌+ℤ◌, ◌-ℤ◌, unsigned_abs, arith, ap, subst, ⊎_elim, mul-le-mul_right}
use Rattle.std.proofs.Math.Nat.{le-max_left, le-max_right}
use Rattle.std.proofs.lemmas.Grind.{div_ceil_times}
use Rattle.std.proofs.lemmas.Bool.{cases_eq}
use Rattle.gic_fixed.specs.Encloses.{Encloses}
use Rattle.gic_fixed.proofs.Integers.{linear}
use Rattle.gic_fixed.proofs.Enclosures.{≤ℤ-times}
use Rattle.gic_model.specs.Standing.{is_live, IsLive}
use Rattle.gic_model.specs.Guess.{least_conductance, residual_down, residual_up}
use Rattle.gic_model.specs.Sums.{Placed}
use Rattle.gic_cert.specs.Step.{most_residual, step_asked_at, checked_step}

pub step_below : (standing : List Placed) (volts x : ℕ → ℤ) (n k : ℕ) → k < n → IsLive standing k → step_asked_at standing volts x k ≤ checked_step standing volts x n
step_below standing volts x zero k h live = absurd (omega (arith, h))
step_below standing volts x (suc n) k h live =
    let before = checked_step standing volts x n in
    let here = cond (is_live standing n) (step_asked_at standing volts x n) 0 in
    let left = le-max_left before here in
    let right = le-max_right before here in
    ⊎_elim
    (λ e.
    let alive : is_live standing n ≡ true = subst (IsLive standing) e live in
    let same : here ≡ step_asked_at standing volts x n = ap (λ b. cond b (step_asked_at standing volts x n) 0) alive in
    let moved : step_asked_at standing volts x k ≡ step_asked_at standing volts x n = ap (step_asked_at standing volts x) e in
    omega (arith, right, same, moved))
    (λ d. let earlier = step_below standing volts x n k (omega (arith, h, d)) live in omega (arith, left, earlier))
    (cases_eq k n)

-- both rounded residuals at a live node are within what its conductance carries at the checked step
pub step_covers : (standing : List Placed) (volts x : ℕ → ℤ) (n k : ℕ) → k < n → IsLive standing k → 0 < least_conductance standing k →
    (4096 * unsigned_abs (residual_down standing volts x k) ≤ checked_step standing volts x n * least_conductance standing k)
    × (4096 * unsigned_abs (residual_up standing volts x k) ≤ checked_step standing volts x n * least_conductance standing k)
step_covers standing volts x n k h live some =
    let g = least_conductance standing k in
    let down = unsigned_abs (residual_down standing volts x k) in
    let up = unsigned_abs (residual_up standing volts x k) in
    let most = most_residual standing volts x k in
    let times = (div_ceil_times (4096 * most) g some).0 in
    let more : step_asked_at standing volts x k * g ≤ checked_step standing volts x n * g = mul-le-mul_right g (step_below standing volts x n k h live) in
    (omega (arith, times, more, le-max_left down up), omega (arith, times, more, le-max_right down up))

-- a wider interval round the same middle
pub wider : (x p : ℤ) (d a b : ℕ) → a ≤ b → Encloses (x -ℤ pos a) (x +ℤ pos a) p d → Encloses (x -ℤ pos b) (x +ℤ pos b) p d
wider x p d a b h e =
    let low = ≤ℤ-times (x -ℤ pos b) (x -ℤ pos a) d (omega (arith, linear, h)) in
    let high = ≤ℤ-times (x +ℤ pos a) (x +ℤ pos b) d (omega (arith, linear, h)) in
    let above = e.above_lo in
    let below = e.below_hi in
    record { above_lo = omega (arith, linear); below_hi = omega (arith, linear) }
