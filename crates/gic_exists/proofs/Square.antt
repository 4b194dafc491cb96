-- The theorem of equations with their coefficients written out.
use Rattle.std.proofs.Common.{◌≡◌, ◌⊎◌, ℕ, zero, suc, ℤ, pos, ◌*ℤ◌, arith, inl, inr}
use lib.IntN.{*ℤ-zero}
use Rattle.gic_fixed.proofs.Integers.{linear, *ℤ-+ℤ, *ℤ_left_comm}
use Rattle.gic_exists.specs.Linear.{mix, Equation, IsSolvedBy, IsZeroAt, Solved, Vanishing, row_sum, SquareSolved, SquareVanishing}
use Rattle.gic_exists.proofs.Elimination.{solved_or_vanishing}
use Rattle.gic_exists.proofs.Listed.{listed, length-listed, at_listed}

pub row_sum-mix : (n : ℕ) (a : ℕ → ℤ) (c d : ℤ) (x y : ℕ → ℤ) → row_sum n a (λ m. mix c d (x m) (y m)) ≡ mix c d (row_sum n a x) (row_sum n a y)
row_sum-mix zero a c d x y =
    let first = *ℤ-zero c in
    let second = *ℤ-zero d in
    omega (arith, linear)
row_sum-mix (suc n) a c d x y =
    let rest = row_sum-mix n a c d x y in
    let here = *ℤ-+ℤ (a n) (c *ℤ x n) (d *ℤ y n) in
    let one = *ℤ_left_comm (a n) c (x n) in
    let other = *ℤ_left_comm (a n) d (y n) in
    let first = *ℤ-+ℤ c (a n *ℤ x n) (row_sum n a x) in
    let second = *ℤ-+ℤ d (a n *ℤ y n) (row_sum n a y) in
    omega (arith, linear)

abbrev pub square_row : ℕ → (ℕ → ℕ → ℤ) → (ℕ → ℤ) → ℕ → Equation
square_row n a b i = record { form = row_sum n (a i); right = b i; linear = row_sum-mix n (a i) }

pub square : (n : ℕ) (a : ℕ → ℕ → ℤ) (b : ℕ → ℤ) → SquareSolved n a b ⊎ SquareVanishing n a
square n a b = by (solved_or_vanishing n (listed (square_row n a b) n) (let same = length-listed (square_row n a b) n in omega arith))
  where
    by : Solved (listed (square_row n a b) n) ⊎ Vanishing n (listed (square_row n a b) n) → SquareSolved n a b ⊎ SquareVanishing n a
    by (inl s) = inl (record { at = s.at; over = s.over; over_above_0 = s.over_above_0; holds = at_listed (IsSolvedBy s.at (pos s.over)) (square_row n a b) n s.holds })
    by (inr v) = inr (record { at = v.at; place = v.place; below = v.below; not_0 = v.not_0; holds = at_listed (IsZeroAt v.at) (square_row n a b) n v.holds })
