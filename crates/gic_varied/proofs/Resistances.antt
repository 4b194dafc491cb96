-- Ohm's law within a range is that of some resistance of the range, whole or not.
use Rattle.std.proofs.Common.{◌≡◌, ℕ, zero, suc, ◌*◌, ◌≤◌, inl, inr, ◌↔◌, ℤ, pos, negsuc, ◌*ℤ◌, neg_ℤ, ◌≤ℤ◌, unsigned_abs, arith, ap, sym, ◌∙◌}
use lib.IntN.{*ℤ_comm, *ℤ-zero}
use Rattle.std.proofs.lemmas.Int.{ints}
use Rattle.std.proofs.Math.Nat.{mul-le-mul_right}
use Rattle.gic_fixed.proofs.Integers.{linear, *ℤ-neg_ℤ, ≤ℤ-from_*ℤ, *ℤ_assoc, *ℤ_left_comm}
use Rattle.gic_varied.specs.Ranges.{Range}
use Rattle.gic_varied.specs.Varied.{IsOhmWithin, IsFractionOf, IsOhmOf, HasResistance}
use Rattle.gic_varied.proofs.Within.{turned_order}

-- of a fraction of the range
pub within_fraction : (range : Range) (a b : ℕ) (drive current : ℤ) → IsFractionOf range a b → IsOhmOf a b drive current → IsOhmWithin range drive current
within_fraction range a b drive (pos n) inside ohm =
    let low : range.least * b * n ≤ a * n = mul-le-mul_right n inside.at_least in
    let high : a * n ≤ range.most * b * n = mul-le-mul_right n inside.at_most in
    let first = *ℤ_left_comm (pos b) (pos range.least) (pos n) in
    let from : (pos b *ℤ (pos range.least *ℤ pos n)) ≤ℤ (pos b *ℤ drive) = omega (arith, linear) in
    let to : (pos b *ℤ drive) ≤ℤ (pos b *ℤ (pos range.most *ℤ pos n)) = omega (arith, linear) in
    inl (omega (arith, ints), ≤ℤ-from_*ℤ b (pos range.least *ℤ pos n) drive inside.some from, ≤ℤ-from_*ℤ b drive (pos range.most *ℤ pos n) inside.some to)
within_fraction range a b drive (negsuc n) inside ohm =
    let low = turned_order (range.least * b) a n inside.at_least in
    let high = turned_order a (range.most * b) n inside.at_most in
    let from : (pos b *ℤ (pos range.most *ℤ negsuc n)) ≤ℤ (pos b *ℤ drive) = let same = regrouped range.most in omega (arith, linear) in
    let to : (pos b *ℤ drive) ≤ℤ (pos b *ℤ (pos range.least *ℤ negsuc n)) = let same = regrouped range.least in omega (arith, linear) in
    inr (omega (arith, ints), ≤ℤ-from_*ℤ b (pos range.most *ℤ negsuc n) drive inside.some from, ≤ℤ-from_*ℤ b drive (pos range.least *ℤ negsuc n) inside.some to)
  where
    regrouped : (k : ℕ) → pos b *ℤ (pos k *ℤ negsuc n) ≡ pos (k * b) *ℤ negsuc n
    regrouped k = *ℤ_left_comm (pos b) (pos k) (negsuc n) ∙ sym (*ℤ_assoc (pos k) (pos b) (negsuc n))

-- what stands on either side of a product with a number below 0
minus_product : (k n : ℕ) → pos k *ℤ negsuc n ≡ neg_ℤ (pos (k * suc n))
minus_product k n = *ℤ-neg_ℤ (pos k) (pos (suc n))

-- of what is within a range: the drive over the current, and the least resistance where there is no current
pub record Fraction : Type 0 where
  pub numerator : ℕ
  pub denominator : ℕ

abbrev pub fraction_of : Range → (drive current : ℤ) → Fraction
fraction_of range drive (pos zero) = record { numerator = range.least; denominator = 1 }
fraction_of range drive (pos (suc n)) = record { numerator = unsigned_abs drive; denominator = suc n }
fraction_of range drive (negsuc n) = record { numerator = unsigned_abs drive; denominator = suc n }

-- it is a resistance of the range with Ohm's law
pub record IsFraction (range : Range) (drive current : ℤ) (f : Fraction) : Type 0 where
  pub inside : IsFractionOf range f.numerator f.denominator
  pub ohm : IsOhmOf f.numerator f.denominator drive current

pub is_fraction : (range : Range) (drive current : ℤ) → range.least ≤ range.most → IsOhmWithin range drive current → IsFraction range drive current (fraction_of range drive current)
is_fraction range drive (pos zero) order (inl h) = record {
  inside = record { some = omega arith; at_least = omega arith; at_most = omega arith };
  ohm = omega (arith, ints, h.1, h.2);
}
is_fraction range drive (pos zero) order (inr h) = record {
  inside = record { some = omega arith; at_least = omega arith; at_most = omega arith };
  ohm = omega (arith, ints, h.1, h.2);
}
is_fraction range (pos k) (pos (suc n)) order (inl h) = record {
  inside = record { some = omega arith; at_least = omega (arith, ints, h.1); at_most = omega (arith, ints, h.2) };
  ohm = *ℤ_comm (pos k) (pos (suc n));
}
is_fraction range (negsuc k) (pos (suc n)) order (inl h) = absurd (omega (arith, ints, h.1))
is_fraction range drive (pos (suc n)) order (inr h) = absurd (omega (arith, ints, h.0))
is_fraction range drive (negsuc n) order (inl h) = absurd (omega (arith, ints, h.0))
is_fraction range (negsuc k) (negsuc n) order (inr h) =
    let most = minus_product range.most n in
    let least = minus_product range.least n in
    record {
      inside = record { some = omega arith; at_least = omega (arith, linear, h.2); at_most = omega (arith, linear, h.1) };
      ohm =
          let one = minus_product (suc k) n in
          let other = minus_product (suc n) k in
          let same : suc k * suc n ≡ suc n * suc k = omega arith in
          one ∙ ap (λ (z : ℕ). neg_ℤ (pos z)) same ∙ sym other;
    }
is_fraction range (pos k) (negsuc n) order (inr h) =
    let least = minus_product range.least n in
    let none : k ≡ 0 = omega (arith, linear, h.2) in
    record {
      inside = record { some = omega arith; at_least = omega (arith, linear, h.2); at_most = omega arith };
      ohm =
          let one = minus_product k n in
          let zero_left = ap (λ (z : ℕ). neg_ℤ (pos (z * suc n))) none in
          let other = ap (λ z. pos (suc n) *ℤ pos z) none in
          let nothing = *ℤ-zero (pos (suc n)) in
          omega (arith, linear);
    }

some_resistance : (range : Range) (drive current : ℤ) → range.least ≤ range.most → IsOhmWithin range drive current → HasResistance range drive current
some_resistance range drive current order h =
    let f = fraction_of range drive current in
    let is = is_fraction range drive current order h in
    record { numerator = f.numerator; denominator = f.denominator; inside = is.inside; ohm = is.ohm }

pub within_is_some : (range : Range) (drive current : ℤ) → range.least ≤ range.most → IsOhmWithin range drive current ↔ HasResistance range drive current
within_is_some range drive current order = (
  some_resistance range drive current order,
  λ h. within_fraction range h.numerator h.denominator drive current h.inside h.ohm,
)
