-- Intervals whose ends are cut.
use Rattle.std.proofs.Common.{◌≡◌, ℕ, ◌*◌, ◌^◌, ◌<◌, ◌≤◌, ◌⊎◌, inl, inr, ⊎_elim, ℤ, pos, negsuc, neg_ℤ, ◌+ℤ◌, ◌-ℤ◌, ◌*ℤ◌, ◌≤ℤ◌, unsigned_abs, arith, mul-le-mul_right}
use Rattle.std.proofs.lemmas.Int.{ints, clamps, unsigned_abs-mul}
use Rattle.std.proofs.lemmas.Bool.{cases_lt}
use Rattle.gic_fixed.proofs.Integers.{linear}
use Rattle.gic_fixed.proofs.Enclosures.{≤ℤ-times}
use Rattle.gic_fixed.specs.Encloses.{Encloses}
use Rattle.gic_model.specs.Guess.{cut}

cut_low : (a : ℤ) → (cut a ≤ℤ a) ⊎ (cut a ≤ℤ neg_ℤ (pos (2 ^ 95)))
cut_low (pos n) = inl (omega (arith, ints, clamps))
cut_low (negsuc n) = ⊎_elim (λ few. inl (omega (arith, ints, clamps, few))) (λ many. inr (omega (arith, ints, clamps, many))) (cases_lt n (2 ^ 96))

cut_high : (a : ℤ) → (a ≤ℤ cut a) ⊎ (pos (2 ^ 95) ≤ℤ cut a)
cut_high (negsuc n) = inl (omega (arith, ints, clamps))
cut_high (pos n) = ⊎_elim (λ few. inl (omega (arith, ints, clamps, few))) (λ many. inr (omega (arith, ints, clamps, many))) (cases_lt n (2 ^ 96))

-- a potential below 2^95 grains
limit_encloses : (p : ℤ) (d : ℕ) → 2 ^ 36 * unsigned_abs p < 2 ^ 95 * d → Encloses (neg_ℤ (pos (2 ^ 95))) (pos (2 ^ 95)) (pos (2 ^ 36) *ℤ p) d
limit_encloses p d h =
    let size = unsigned_abs-mul (pos (2 ^ 36)) p in
    plain (pos (2 ^ 36) *ℤ p) (omega (arith, size, h))
  where
    plain : (z : ℤ) → unsigned_abs z ≤ 2 ^ 95 * d → Encloses (neg_ℤ (pos (2 ^ 95))) (pos (2 ^ 95)) z d
    plain z h = record { above_lo = omega (arith, ints, h); below_hi = omega (arith, ints, h) }

-- it stays in an interval whose ends are cut at 2^96
pub cut_encloses : (lo hi p : ℤ) (d : ℕ) → Encloses lo hi (pos (2 ^ 36) *ℤ p) d → 2 ^ 36 * unsigned_abs p < 2 ^ 95 * d → Encloses (cut lo) (cut hi) (pos (2 ^ 36) *ℤ p) d
cut_encloses lo hi p d h small = record {
  above_lo = ⊎_elim
      (λ a. let t = ≤ℤ-times (cut lo) lo d a in let b = h.above_lo in omega (arith, linear))
      (λ a. let t = ≤ℤ-times (cut lo) (neg_ℤ (pos (2 ^ 95))) d a in let b = (limit_encloses p d small).above_lo in omega (arith, linear))
      (cut_low lo);
  below_hi = ⊎_elim
      (λ a. let t = ≤ℤ-times hi (cut hi) d a in let b = h.below_hi in omega (arith, linear))
      (λ a. let t = ≤ℤ-times (pos (2 ^ 95)) (cut hi) d a in let b = (limit_encloses p d small).below_hi in omega (arith, linear))
      (cut_high hi);
}

pub cut_small : (a z : ℤ) → z ≡ cut a → unsigned_abs z ≤ 2 ^ 96
cut_small a z e = omega (arith, ints, clamps, e)

pub cut_order : (a b : ℤ) → a ≤ℤ b → cut a ≤ℤ cut b
cut_order a b h = omega (arith, ints, clamps)

pub cut_narrow : (x lo hi : ℤ) (v t r : ℕ) → v ≤ 4096 → t ≤ 2 ^ 30 → r ≡ v * t → lo ≡ cut (x -ℤ pos r) → hi ≡ cut (x +ℤ pos r) → (hi -ℤ lo) ≤ℤ pos (2 ^ 43)
cut_narrow x lo hi v t r small step e le he =
    let a : v * t ≤ 4096 * t = mul-le-mul_right t small in
    let b : r ≤ 2 ^ 42 = omega (arith, e, a, step) in
    plain x lo hi r b le he
  where
    plain : (x lo hi : ℤ) (r : ℕ) → r ≤ 2 ^ 42 → lo ≡ cut (x -ℤ pos r) → hi ≡ cut (x +ℤ pos r) → (hi -ℤ lo) ≤ℤ pos (2 ^ 43)
    plain x lo hi r b le he = omega (arith, ints, clamps)

pub cut_tight : (x lo hi : ℤ) (v t r : ℕ) → v ≤ 4096 → t ≤ 2 ^ 19 → r ≡ v * t → lo ≡ cut (x -ℤ pos r) → hi ≡ cut (x +ℤ pos r) → (hi -ℤ lo) ≤ℤ pos (2 ^ 32)
cut_tight x lo hi v t r small step e le he =
    let a : v * t ≤ 4096 * t = mul-le-mul_right t small in
    let b : r ≤ 2 ^ 31 = omega (arith, e, a, step) in
    plain x lo hi r b le he
  where
    plain : (x lo hi : ℤ) (r : ℕ) → r ≤ 2 ^ 31 → lo ≡ cut (x -ℤ pos r) → hi ≡ cut (x +ℤ pos r) → (hi -ℤ lo) ≤ℤ pos (2 ^ 32)
    plain x lo hi r b le he = omega (arith, ints, clamps)

pub cut_middle : (x lo hi : ℤ) (v t r : ℕ) → v ≤ 4096 → t ≤ 2 ^ 30 → r ≡ v * t → unsigned_abs x ≤ 2 ^ 95 → lo ≡ cut (x -ℤ pos r) → hi ≡ cut (x +ℤ pos r) → lo +ℤ hi ≡ pos 2 *ℤ x
cut_middle x lo hi v t r small step e near le he =
    let a : v * t ≤ 4096 * t = mul-le-mul_right t small in
    let b : r ≤ 2 ^ 42 = omega (arith, e, a, step) in
    plain x lo hi r b near le he
  where
    plain : (x lo hi : ℤ) (r : ℕ) → r ≤ 2 ^ 42 → unsigned_abs x ≤ 2 ^ 95 → lo ≡ cut (x -ℤ pos r) → hi ≡ cut (x +ℤ pos r) → lo +ℤ hi ≡ pos 2 *ℤ x
    plain x lo hi r b near le he = omega (arith, ints, clamps)
