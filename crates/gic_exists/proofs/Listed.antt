-- A list of equations, one for each place below n.
use Rattle.std.proofs.Common.{◌≡◌, ℕ, zero, suc, ◌<◌, List, [], ◌∷◌, length, arith, refl, ap, sym, subst, ⊎_elim}
use Rattle.std.specs.List.{AllByRecursion}
use Rattle.gic_model.proofs.Ratios.{last_or_below}
use Rattle.gic_exists.specs.Linear.{Equation}

abbrev pub listed : (ℕ → Equation) → ℕ → List Equation
listed row zero = []
listed row (suc n) = row n ∷ listed row n

pub length-listed : (row : ℕ → Equation) (n : ℕ) → length (listed row n) ≡ n
length-listed row zero = refl
length-listed row (suc n) = ap suc (length-listed row n)

pub at_listed : (P : Equation → Type 0) (row : ℕ → Equation) (n : ℕ) → AllByRecursion P (listed row n) → (k : ℕ) → k < n → P (row k)
at_listed P row zero h k below = absurd (omega arith)
at_listed P row (suc n) h k below = ⊎_elim (λ is. subst (λ (j : ℕ). P (row j)) (sym is) h.0) (λ less. at_listed P row n h.1 k less) (last_or_below n k below)
