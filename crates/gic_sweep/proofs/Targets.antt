-- Where a sweep moves a guess to.
use Rattle.std.proofs.Common.{◌≡◌, ℕ, ◌+◌, ◌*◌, ◌^◌, ◌≤◌, ℤ, pos, ◌+ℤ◌, ◌-ℤ◌, ◌*ℤ◌, ◌≤ℤ◌, ◌<ℤ◌, unsigned_abs, arith, ap, sym, List, ⊎_elim}
use Rattle.std.proofs.lemmas.Int.{ints, clamps}
use Rattle.std.proofs.lemmas.Bool.{cases_Bool}
use lib.IntN.{*ℤ_comm}
use Rattle.gic_fixed.proofs.Integers.{linear, *ℤ-≤ℤ, *ℤ_assoc}
use Rattle.gic_model.specs.Guess.{most_guess, cut}
use Rattle.gic_model.specs.Standing.{is_live}
use Rattle.gic_model.specs.Sums.{Placed}
use Rattle.gic_sweep.specs.Guesses.{AreCut}
use Rattle.gic_sweep.specs.Sweep.{IsSweptTo}
use Rattle.gic_sweep.proofs.Falls.{target_is}

-- what a sweep makes of guesses within their limit is within it
pub swept_small : (standing : List Placed) (volts x : ℕ → ℤ) (k : ℕ) (z : ℤ) → AreCut x → IsSweptTo standing volts x k z → unsigned_abs z ≤ most_guess
swept_small standing volts x k z before swept =
    ⊎_elim
    (λ live. let to = swept.live live in omega (arith, cut_small to.0, ap unsigned_abs to.2))
    (λ dead. omega (arith, before k, ap unsigned_abs (swept.dead dead)))
    (cases_Bool (is_live standing k))
  where
    cut_small : (t : ℤ) → unsigned_abs (cut t) ≤ most_guess
    cut_small t = omega (arith, ints, clamps)

-- d is the diagonal, den the product of the resistances and res the residual over it, which the rounded residuals low and high hold; the guess g falls by m to t
module _ (d den h : ℕ) (low high m g t res : ℤ)
    (below : (pos d *ℤ m) ≤ℤ (pos 4096 *ℤ low)) (above : (pos 4096 *ℤ low) <ℤ ((pos d *ℤ m) +ℤ pos d))
    (above_lo : (low *ℤ pos den) ≤ℤ (pos 256 *ℤ res)) (below_hi : (pos 256 *ℤ res) ≤ℤ (high *ℤ pos den))
    (narrow : (high -ℤ low) ≤ℤ pos h) (te : t ≡ g -ℤ m) where
  scaled : pos 4096 *ℤ (pos 256 *ℤ res) ≡ pos (2 ^ 20) *ℤ res
  scaled = sym (*ℤ_assoc (pos 4096) (pos 256) res)

  lower : (pos (4096 * den) *ℤ low) ≤ℤ (pos (2 ^ 20) *ℤ res)
  lower =
      let a = *ℤ-≤ℤ 4096 (low *ℤ pos den) (pos 256 *ℤ res) above_lo in
      let b = *ℤ_assoc (pos 4096) (pos den) low in
      let e = ap (λ (z : ℤ). pos 4096 *ℤ z) (*ℤ_comm low (pos den)) in
      omega (arith, linear, scaled)

  upper : (pos (2 ^ 20) *ℤ res) ≤ℤ (pos (4096 * den) *ℤ (low +ℤ pos h))
  upper =
      let more : high ≤ℤ (low +ℤ pos h) = omega (arith, linear) in
      let a = *ℤ-≤ℤ 4096 (pos 256 *ℤ res) (high *ℤ pos den) below_hi in
      let b = *ℤ-≤ℤ (4096 * den) high (low +ℤ pos h) more in
      let c = *ℤ_assoc (pos 4096) (pos den) high in
      let e = ap (λ (z : ℤ). pos 4096 *ℤ z) (*ℤ_comm high (pos den)) in
      omega (arith, linear, scaled)

  pub is_target : unsigned_abs ((pos (d * den) *ℤ (t -ℤ g)) +ℤ (pos (2 ^ 20) *ℤ res)) ≤ den * (2 * d + 4096 * h)
  is_target = target_is d den h low m g t (pos (2 ^ 20) *ℤ res) below above lower upper te
