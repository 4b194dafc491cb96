-- Greater and lesser ends than those of an interval that encloses a worst current.
use Rattle.std.proofs.Common.{◌≡◌, ℕ, ◌*◌, ◌≤◌, ℤ, pos, ◌*ℤ◌, ◌≤ℤ◌, unsigned_abs, arith, sym, subst}
use Rattle.std.proofs.lemmas.Int.{ints}
use Rattle.std.proofs.Math.Nat.{mul-le-mul_right}
use Rattle.gic_criteria.specs.VerdictLaws.{worst_square}
use Rattle.gic_criteria.specs.Worst.{square_of, EnclosesWorst}
use Rattle.gic_criteria.proofs.Squares.{square-le, square-times}

-- the squares keep the order
squares_in_order : (a b : ℤ) (d : ℕ) → pos 0 ≤ℤ a → a ≤ℤ b → square_of (a *ℤ pos d) ≤ square_of (b *ℤ pos d)
squares_in_order a b d sign order =
    let most : unsigned_abs a ≤ unsigned_abs b = omega (arith, ints, sign, order) in
    let squares = square-le (unsigned_abs a * d) (unsigned_abs b * d) (mul-le-mul_right d most) in
    between _ _ _ _ (square-times a d) (square-times b d) squares
  where
    between : (x y p q : ℕ) → x ≡ p → y ≡ q → p ≤ q → x ≤ y
    between x y p q e f h = omega (arith, e, f, h)

le_trans : (a b c : ℕ) → a ≤ b → b ≤ c → a ≤ c
le_trans a b c first later = omega (arith, first, later)

-- the worst current is at most an end that isn't under the high one
pub up_to : (lo hi high n : ℤ) (d : ℕ) (m : ℤ) (e : ℕ) → lo ≤ℤ hi → hi ≤ℤ high → EnclosesWorst lo hi n d m e → (pos 0 ≤ℤ high) × (worst_square n d m e ≤ square_of (high *ℤ pos (d * e)))
up_to lo hi high n d m e ordered most holds =
    let sign : pos 0 ≤ℤ hi = omega (arith, ints, ordered, holds.not_negative) in
    (omega (arith, ints, sign, most), le_trans _ _ _ holds.below_hi (squares_in_order hi high (d * e) sign most))

-- it is at least the low one
pub no_less : (lo hi low n : ℤ) (d : ℕ) (m : ℤ) (e : ℕ) → low ≡ lo → EnclosesWorst lo hi n d m e → (pos 0 ≤ℤ low) × (square_of (low *ℤ pos (d * e)) ≤ worst_square n d m e)
no_less lo hi low n d m e is holds =
    subst (λ (z : ℤ). (pos 0 ≤ℤ z) × (square_of (z *ℤ pos (d * e)) ≤ worst_square n d m e)) (sym is) (holds.not_negative, holds.above_lo)
