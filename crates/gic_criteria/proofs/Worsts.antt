-- The worst interval encloses the worst current, and is narrow where its parts are.
use Rattle.std.proofs.Common.{◌≡◌, ℕ, ◌+◌, ◌*◌, ◌^◌, ◌≤◌, ℤ, pos, negsuc, ◌-ℤ◌, ◌*ℤ◌, ◌≤ℤ◌, unsigned_abs, arith, subst, sym}
use Rattle.std.proofs.lemmas.Int.{ints, clamps}
use Rattle.gic_fixed.specs.Rounding.{least_abs, greatest_abs}
use Rattle.gic_fixed.specs.Encloses.{Encloses}
use Rattle.gic_fixed.proofs.Enclosures.{Encloses-abs}
use Rattle.gic_fixed.specs.Roots.{IsFloorRoot, IsCeilRoot}
use Rattle.gic_criteria.specs.Worst.{square_of, EnclosesWorst}
use Rattle.gic_criteria.proofs.Squares.{square-le, square-le-back, square-times, sum_above, sum_below, length_grows}

-- the same roots of the same numbers
pub floor_root_same : (x x' y y' r r' : ℤ) → x ≡ x' → y ≡ y' → r ≡ r' → IsFloorRoot (square_of x + square_of y) (unsigned_abs r) → IsFloorRoot (square_of x' + square_of y') (unsigned_abs r')
floor_root_same x x' y y' r r' e f g h =
    subst (λ (z : ℤ). IsFloorRoot (square_of z + square_of y') (unsigned_abs r')) e
    (subst (λ (z : ℤ). IsFloorRoot (square_of x + square_of z) (unsigned_abs r')) f
    (subst (λ (z : ℤ). IsFloorRoot (square_of x + square_of y) (unsigned_abs z)) g h))

pub ceil_root_same : (x x' y y' r r' : ℤ) → x ≡ x' → y ≡ y' → r ≡ r' → IsCeilRoot (square_of x + square_of y) (unsigned_abs r) → IsCeilRoot (square_of x' + square_of y') (unsigned_abs r')
ceil_root_same x x' y y' r r' e f g h =
    subst (λ (z : ℤ). IsCeilRoot (square_of z + square_of y') (unsigned_abs r')) e
    (subst (λ (z : ℤ). IsCeilRoot (square_of x + square_of z) (unsigned_abs r')) f
    (subst (λ (z : ℤ). IsCeilRoot (square_of x + square_of y) (unsigned_abs z)) g h))

-- a root of a sum below 2^126 is not large
pub ceil_root_small : (a r : ℕ) → IsCeilRoot a r → a ≤ 2 ^ 125 → r ≤ 2 ^ 63
ceil_root_small a r root h = root.least (2 ^ 63) (omega arith)

-- the root of an equal number, as a number with a sign
pub ceil_root_signed : (a b r : ℕ) (z : ℤ) → a ≡ b → z ≡ pos r → IsCeilRoot a r → IsCeilRoot b (unsigned_abs z)
ceil_root_signed a b r z e f root =
    subst (λ (y : ℤ). IsCeilRoot b (unsigned_abs y)) (sym f) (subst (λ (x : ℕ). IsCeilRoot x r) e root)

pub least_not_negative : (lo hi : ℤ) → pos 0 ≤ℤ least_abs lo hi
least_not_negative lo hi = omega (arith, ints, clamps)

pub greatest_not_negative : (lo hi : ℤ) → lo ≤ℤ hi → pos 0 ≤ℤ greatest_abs lo hi
greatest_not_negative lo hi h = omega (arith, ints, clamps)

pub lengths_in_order : (a a' b b' r s : ℤ) → pos 0 ≤ℤ a → a ≤ℤ a' → pos 0 ≤ℤ b → b ≤ℤ b' → pos 0 ≤ℤ r → pos 0 ≤ℤ s →
    IsFloorRoot (square_of a + square_of b) (unsigned_abs r) → IsCeilRoot (square_of a' + square_of b') (unsigned_abs s) → r ≤ℤ s
lengths_in_order a a' b b' r s h k p q u v floor ceil =
    let one = square-le (unsigned_abs a) (unsigned_abs a') (omega (arith, ints)) in
    let other = square-le (unsigned_abs b) (unsigned_abs b') (omega (arith, ints)) in
    let order = square-le-back (unsigned_abs r) (unsigned_abs s) (omega (arith, floor.square, ceil.square)) in
    omega (arith, ints)

part_low : (a : ℤ) (n d : ℕ) → pos 0 ≤ℤ a → (a *ℤ pos d) ≤ℤ pos n → unsigned_abs a * d ≤ n
part_low (pos x) n d h k = omega (arith, ints)
part_low (negsuc x) n d h k = absurd (omega (arith, ints))

part_high : (a : ℤ) (n d : ℕ) → pos 0 ≤ℤ a → pos n ≤ℤ (a *ℤ pos d) → n ≤ unsigned_abs a * d
part_high (pos x) n d h k = omega (arith, ints)
part_high (negsuc x) n d h k = absurd (omega (arith, ints))

module _ (north_lo north_hi east_lo east_hi lo hi : ℤ) (north_order : north_lo ≤ℤ north_hi) (east_order : east_lo ≤ℤ east_hi) (sign : pos 0 ≤ℤ lo)
    (floor : IsFloorRoot (square_of (least_abs north_lo north_hi) + square_of (least_abs east_lo east_hi)) (unsigned_abs lo))
    (ceil : IsCeilRoot (square_of (greatest_abs north_lo north_hi) + square_of (greatest_abs east_lo east_hi)) (unsigned_abs hi)) where
  pub worst_holds : (n : ℤ) (d : ℕ) (m : ℤ) (e : ℕ) → Encloses north_lo north_hi n d → Encloses east_lo east_hi m e → EnclosesWorst lo hi n d m e
  worst_holds n d m e north east =
      let one = Encloses-abs north_lo north_hi n d north in
      let other = Encloses-abs east_lo east_hi m e east in
      let a = part_low (least_abs north_lo north_hi) (unsigned_abs n) d (least_not_negative north_lo north_hi) one.above_lo in
      let b = part_low (least_abs east_lo east_hi) (unsigned_abs m) e (least_not_negative east_lo east_hi) other.above_lo in
      let a' = part_high (greatest_abs north_lo north_hi) (unsigned_abs n) d (greatest_not_negative north_lo north_hi north_order) one.below_hi in
      let b' = part_high (greatest_abs east_lo east_hi) (unsigned_abs m) e (greatest_not_negative east_lo east_hi east_order) other.below_hi in
      let below = sum_above (unsigned_abs lo) (unsigned_abs (least_abs north_lo north_hi)) (unsigned_abs (least_abs east_lo east_hi)) (unsigned_abs n) (unsigned_abs m) d e floor.square a b in
      let above = sum_below (unsigned_abs hi) (unsigned_abs (greatest_abs north_lo north_hi)) (unsigned_abs (greatest_abs east_lo east_hi)) (unsigned_abs n) (unsigned_abs m) d e ceil.square a' b' in
      let lo_is = square-times lo (d * e) in
      let hi_is = square-times hi (d * e) in
      let n_is = square-times n e in
      let m_is = square-times m d in
      record {
        not_negative = sign;
        above_lo = omega (arith, below, lo_is, n_is, m_is);
        below_hi = omega (arith, above, hi_is, n_is, m_is);
      }

  -- an interval is not made wider by the absolute value
  abs_narrow : (lo hi : ℤ) (w : ℕ) → lo ≤ℤ hi → (hi -ℤ lo) ≤ℤ pos w → unsigned_abs (greatest_abs lo hi) ≤ unsigned_abs (least_abs lo hi) + w
  abs_narrow lo hi w h k = omega (arith, ints, clamps)

  pub worst_narrow : (w : ℕ) → 2 ≤ w → (north_hi -ℤ north_lo) ≤ℤ pos w → (east_hi -ℤ east_lo) ≤ℤ pos w → (hi -ℤ lo) ≤ℤ pos (2 * w)
  worst_narrow w h north east =
      let a = abs_narrow north_lo north_hi w north_order north in
      let b = abs_narrow east_lo east_hi w east_order east in
      let grown = length_grows (unsigned_abs lo) (unsigned_abs (least_abs north_lo north_hi)) (unsigned_abs (least_abs east_lo east_hi)) _ _ w h floor.next a b in
      let most = ceil.least (unsigned_abs lo + 2 * w) grown in
      omega (arith, ints)
