-- One element's part of a residual.
use Rattle.std.proofs.Common.{◌≡◌, ℕ, zero, suc, ◌+◌, ◌*◌, ◌/◌, ◌^◌, ◌<◌, ◌≤◌, inl, inr, Bool, true, false, cond, ◌==◌, ℤ, pos, negsuc, ◌+ℤ◌, ◌-ℤ◌, ◌*ℤ◌, neg_ℤ, unsigned_abs, arith, refl, ap, sym, ◌∙◌, div-add-mod', mul-le-mul_left, le_of_mul-le-mul_right}
use Rattle.std.proofs.lemmas.Int.{ints, unsigned_abs-mul}
use Rattle.std.proofs.lemmas.Grind.{div_ceil_times}
use Rattle.std.specs.Int.{div_ceil}
use Rattle.gic_fixed.specs.Encloses.{IsWithin}
use Rattle.gic_fixed.specs.Rounding.{floor_div, ceil_div}
use Rattle.gic_fixed.proofs.Integers.{*ℤ_assoc, *ℤ-neg_ℤ}
use Rattle.gic_model.specs.declared.parts.Element.{Element}
use Rattle.gic_model.specs.Limits.{IsElementWithin}
use Rattle.gic_model.specs.Standing.{leaving, value_at}
use Rattle.gic_model.specs.Guess.{part_times_ohms}

pub product_small : (m : ℕ) (z w : ℤ) → unsigned_abs z ≤ 2 ^ 97 + 2 ^ 94 → w ≡ pos m *ℤ z → unsigned_abs w ≤ m * (2 ^ 97 + 2 ^ 94)
product_small m z w q e =
    let times : m * unsigned_abs z ≤ m * (2 ^ 97 + 2 ^ 94) = mul-le-mul_left m q in
    omega (arith, ap unsigned_abs e, unsigned_abs-mul (pos m) z, times)

leaving_times : (k g : ℕ) (e : Element) (z : ℤ) → leaving k e (pos g *ℤ z) ≡ pos g *ℤ leaving k e z
leaving_times k g e z = by (e.from.0 == k)
  where
    by : (b : Bool) → cond b (pos g *ℤ z) (neg_ℤ (pos g *ℤ z)) ≡ pos g *ℤ cond b z (neg_ℤ z)
    by true = refl
    by false = sym (*ℤ-neg_ℤ (pos g) z)

pub part_is : (volts x : ℕ → ℤ) (k place : ℕ) (e : Element) (from to push d w z : ℤ) →
    from ≡ x e.from.0 → to ≡ value_at x e.to → push ≡ pos (2 ^ 36) *ℤ volts place → d ≡ from -ℤ to +ℤ push → w ≡ pos (256 * (e.times * 1000000)) *ℤ d → z ≡ leaving k e w →
    z ≡ part_times_ohms volts x k (place, e)
part_is volts x k place e from to push d w z fe te pe de we ze =
    let inner : d ≡ x e.from.0 -ℤ value_at x e.to +ℤ pos (2 ^ 36) *ℤ volts place = cc in
    ze ∙ ap (leaving k e) (we ∙ *ℤ_assoc (pos 256) (pos (e.times * 1000000)) d ∙ ap (λ (y : ℤ). pos 256 *ℤ (pos (e.times * 1000000) *ℤ y)) inner) ∙
    leaving_times k 256 e (pos (e.times * 1000000) *ℤ (x e.from.0 -ℤ value_at x e.to +ℤ pos (2 ^ 36) *ℤ volts place))

quotient_small : (r c : ℕ) (z : ℤ) → 0 < r → 1 ≤ c → unsigned_abs z ≤ c * r * (2 ^ 85 + 2 ^ 82) → unsigned_abs (floor_div z (pos r)) ≤ c * 2 ^ 86
quotient_small r c (pos a) p one h =
    let k : a / r * r ≤ c * (2 ^ 85 + 2 ^ 82) * r = omega (arith, h, div-add-mod' a r) in
    let less : a / r ≤ c * (2 ^ 85 + 2 ^ 82) = le_of_mul-le-mul_right {k = r} k p in
    omega (arith, less)
quotient_small r c (negsuc a) p one h =
    let k : a / r * r ≤ c * (2 ^ 85 + 2 ^ 82) * r = omega (arith, h, div-add-mod' a r) in
    let less : a / r ≤ c * (2 ^ 85 + 2 ^ 82) = le_of_mul-le-mul_right {k = r} k p in
    omega (arith, less)

module _ (nodes : ℕ) (e : Element) (h : IsElementWithin nodes e) where
  ceil_ge : e.times * 1000000 * 2 ^ 20 ≤ div_ceil (e.times * 1000000 * 2 ^ 20) e.micro_ohm * e.micro_ohm
  ceil_ge = let some : 0 < e.micro_ohm = omega (arith, h.least_ohm) in omega (arith, (div_ceil_times (e.times * 1000000 * 2 ^ 20) e.micro_ohm some).0)

  -- a part of a diagonal is above 0
  pub one_le : 1 ≤ div_ceil (e.times * 1000000 * 2 ^ 20) e.micro_ohm
  one_le =
      let some : 1 ≤ e.times = elim h.one_or_three [ inl one ↦ omega arith | inr three ↦ omega arith ] in
      by (div_ceil (e.times * 1000000 * 2 ^ 20) e.micro_ohm) ceil_ge (omega (arith, some))
    where
      by : (n : ℕ) → e.times * 1000000 * 2 ^ 20 ≤ n * e.micro_ohm → 0 < e.times → 1 ≤ n
      by zero h some = omega (arith, h, some)
      by (suc n) h some = omega arith

  -- and at most 2^32
  pub part_most : div_ceil (e.times * 1000000 * 2 ^ 20) e.micro_ohm ≤ 2 ^ 32
  part_most =
      let three : e.times ≤ 3 = elim h.one_or_three [ inl one ↦ omega arith | inr three ↦ omega arith ] in
      let n = e.times * 1000000 * 2 ^ 20 in
      let q : n / e.micro_ohm * 1000 ≤ n / e.micro_ohm * e.micro_ohm = mul-le-mul_left (n / e.micro_ohm) h.least_ohm in
      omega (arith, div-add-mod' n e.micro_ohm, three, q)

  -- how great a rounded part of a residual can be
  pub rounded_small : (z : ℤ) → unsigned_abs z ≤ 256 * (e.times * 1000000) * (2 ^ 97 + 2 ^ 94) →
      IsWithin (div_ceil (e.times * 1000000 * 2 ^ 20) e.micro_ohm * 2 ^ 86) (floor_div z (pos e.micro_ohm)) (ceil_div z (pos e.micro_ohm))
  rounded_small z small =
      let scaled : unsigned_abs z ≤ div_ceil (e.times * 1000000 * 2 ^ 20) e.micro_ohm * e.micro_ohm * (2 ^ 85 + 2 ^ 82) = omega (arith, ceil_ge, small) in
      let turned : unsigned_abs (neg_ℤ z) ≤ div_ceil (e.times * 1000000 * 2 ^ 20) e.micro_ohm * e.micro_ohm * (2 ^ 85 + 2 ^ 82) = omega (arith, ints, scaled) in
      let some : 0 < e.micro_ohm = omega (arith, h.least_ohm) in
      record {
        low = quotient_small e.micro_ohm (div_ceil (e.times * 1000000 * 2 ^ 20) e.micro_ohm) z some one_le scaled;
        high = omega (arith, ints, quotient_small e.micro_ohm (div_ceil (e.times * 1000000 * 2 ^ 20) e.micro_ohm) (neg_ℤ z) some one_le turned);
      }
