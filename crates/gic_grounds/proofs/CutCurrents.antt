-- Currents that are cut to the greatest that is told.
use Rattle.std.proofs.Common.{◌≡◌, ℕ, ◌*◌, ◌^◌, ◌<◌, ◌≤◌, ◌⊎◌, inl, inr, ⊎_elim, ℤ, pos, negsuc, neg_ℤ, ◌*ℤ◌, ◌≤ℤ◌, unsigned_abs, arith, subst}
use Rattle.std.proofs.lemmas.Int.{ints, clamps}
use Rattle.std.proofs.lemmas.Bool.{cases_lt}
use Rattle.gic_fixed.proofs.Integers.{linear}
use Rattle.gic_fixed.proofs.Enclosures.{≤ℤ-times, Encloses-div_out, Encloses-cancel}
use Rattle.gic_fixed.specs.Encloses.{Encloses}
use Rattle.gic_fixed.specs.Ends.{Ends}
use Rattle.gic_fixed.specs.Rounding.{floor_div, ceil_div}
use Rattle.gic_grounds.specs.VariedCurrent.{cut_current, milli_cut}

-- a cut current is no greater, unless it is cut at the lower end
cut_low : (a : ℤ) → (cut_current a ≤ℤ a) ⊎ (cut_current a ≤ℤ neg_ℤ (pos (2 ^ 61)))
cut_low (pos n) = inl (omega (arith, ints, clamps))
cut_low (negsuc n) = ⊎_elim (λ few. inl (omega (arith, ints, clamps, few))) (λ many. inr (omega (arith, ints, clamps, many))) (cases_lt n (2 ^ 61))

-- and no less, unless it is cut at the upper end
cut_high : (a : ℤ) → (a ≤ℤ cut_current a) ⊎ (pos (2 ^ 61) ≤ℤ cut_current a)
cut_high (negsuc n) = inl (omega (arith, ints, clamps))
cut_high (pos n) = ⊎_elim (λ few. inl (omega (arith, ints, clamps, few))) (λ many. inr (omega (arith, ints, clamps, many))) (cases_lt n (2 ^ 61))

-- what is no greater than the greatest that is told lies between the ends at which it is cut
limit_encloses : (z : ℤ) (d : ℕ) → unsigned_abs z ≤ 2 ^ 61 * d → Encloses (neg_ℤ (pos (2 ^ 61))) (pos (2 ^ 61)) z d
limit_encloses z d h = record { above_lo = omega (arith, ints, h); below_hi = omega (arith, ints, h) }

-- what is no greater stays in an interval whose ends are cut
pub cut_encloses : (lo hi z : ℤ) (d : ℕ) → unsigned_abs z ≤ 2 ^ 61 * d → Encloses lo hi z d → Encloses (cut_current lo) (cut_current hi) z d
cut_encloses lo hi z d small h = record {
  above_lo = ⊎_elim
      (λ a. let t = ≤ℤ-times (cut_current lo) lo d a in let b = h.above_lo in omega (arith, linear))
      (λ a. let t = ≤ℤ-times (cut_current lo) (neg_ℤ (pos (2 ^ 61))) d a in let b = (limit_encloses z d small).above_lo in omega (arith, linear))
      (cut_low lo);
  below_hi = ⊎_elim
      (λ a. let t = ≤ℤ-times hi (cut_current hi) d a in let b = h.below_hi in omega (arith, linear))
      (λ a. let t = ≤ℤ-times (pos (2 ^ 61)) (cut_current hi) d a in let b = (limit_encloses z d small).below_hi in omega (arith, linear))
      (cut_high hi);
}

-- an enclosure in nanoamperes, times m, gives the interval in milliamperes
pub milli_cut_holds : (nano : Ends) (z : ℤ) (m volts d : ℕ) → 0 < m → unsigned_abs z ≤ 2 ^ 61 * (3000000 * volts * d) →
    Encloses nano.low nano.high (pos m *ℤ z) (m * (3 * volts * d)) → Encloses (milli_cut nano).low (milli_cut nano).high z (3000000 * volts * d)
milli_cut_holds nano z m volts d some small h =
    let plain = Encloses-cancel nano.low nano.high z (3 * volts * d) m some h in
    let out = Encloses-div_out nano.low nano.high z (3 * volts * d) 1000000 (omega arith) plain in
    let same : 1000000 * (3 * volts * d) ≡ 3000000 * volts * d = omega arith in
    cut_encloses (floor_div nano.low (pos 1000000)) (ceil_div nano.high (pos 1000000)) z (3000000 * volts * d) small
    (subst (λ (n : ℕ). Encloses (floor_div nano.low (pos 1000000)) (ceil_div nano.high (pos 1000000)) z n) same out)
