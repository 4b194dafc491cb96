-- Linear equations in whole numbers, and what solves them over a denominator.
use Rattle.std.specs.Prelude.{ℕ, zero, suc, ◌≡◌, ◌≤◌, ◌<◌, ◌⊎◌, List, length, ℤ, pos, ◌+ℤ◌, ◌*ℤ◌}
use Rattle.std.specs.List.{AllByRecursion}

-- c of the one number and d of the other
abbrev pub mix : ℤ → ℤ → ℤ → ℤ → ℤ
mix c d a b = c *ℤ a +ℤ d *ℤ b

-- a linear form over a number at each place, and the number that it is to give
pub record Equation : Type 0 where
  pub form : (ℕ → ℤ) → ℤ
  pub right : ℤ
  pub linear : (c d : ℤ) (x y : ℕ → ℤ) → form (λ m. mix c d (x m) (y m)) ≡ mix c d (form x) (form y)

-- the numbers x over the denominator d solve the equation
abbrev pub IsSolvedBy : (ℕ → ℤ) → ℤ → Equation → Type 0
IsSolvedBy x d r = r.form x ≡ d *ℤ r.right

-- its form is 0 at the numbers x
abbrev pub IsZeroAt : (ℕ → ℤ) → Equation → Type 0
IsZeroAt x r = r.form x ≡ pos 0

-- numbers that solve the equations over a denominator above 0
pub record Solved (rows : List Equation) : Type 0 where
  pub at : ℕ → ℤ
  pub over : ℕ
  pub over_above_0 : 0 < over
  pub holds : AllByRecursion (IsSolvedBy at (pos over)) rows

-- numbers at the places below n, one of them other than 0, at which every form is 0
pub record Vanishing (n : ℕ) (rows : List Equation) : Type 0 where
  pub at : ℕ → ℤ
  pub place : ℕ
  pub below : place < n
  pub not_0 : at place ≡ pos 0 → ⊥
  pub none_from : (m : ℕ) → n ≤ m → at m ≡ pos 0
  pub holds : AllByRecursion (IsZeroAt at) rows

-- n equations or fewer are solved over a denominator, or all their forms are 0 at n numbers that are not all 0
abbrev pub FewEquationsAreSolvedOrVanish : Type 0
FewEquationsAreSolvedOrVanish = (n : ℕ) (rows : List Equation) → length rows ≤ n → Solved rows ⊎ Vanishing n rows

-- the sum of a j times x j over the places j below n
abbrev pub row_sum : ℕ → (ℕ → ℤ) → (ℕ → ℤ) → ℤ
row_sum zero a x = pos 0
row_sum (suc n) a x = a n *ℤ x n +ℤ row_sum n a x

-- numbers that solve n equations in n unknowns over a denominator above 0, with the coefficients a and the right sides b
pub record SquareSolved (n : ℕ) (a : ℕ → ℕ → ℤ) (b : ℕ → ℤ) : Type 0 where
  pub at : ℕ → ℤ
  pub over : ℕ
  pub over_above_0 : 0 < over
  pub holds : (i : ℕ) → i < n → row_sum n (a i) at ≡ pos over *ℤ b i

-- numbers, one of them other than 0, that the coefficients take to zeros
pub record SquareVanishing (n : ℕ) (a : ℕ → ℕ → ℤ) : Type 0 where
  pub at : ℕ → ℤ
  pub place : ℕ
  pub below : place < n
  pub not_0 : at place ≡ pos 0 → ⊥
  pub holds : (i : ℕ) → i < n → row_sum n (a i) at ≡ pos 0

-- n equations in n unknowns are solved over a denominator, or the coefficients take numbers that are not all 0 to zeros
abbrev pub SquareEquationsAreSolvedOrVanish : Type 0
SquareEquationsAreSolvedOrVanish = (n : ℕ) (a : ℕ → ℕ → ℤ) (b : ℕ → ℤ) → SquareSolved n a b ⊎ SquareVanishing n a
