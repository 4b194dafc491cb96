-- Lists that are filled place by place.
use Rattle.std.proofs.Common.{◌≡◌, ℕ, ◌+◌, ◌<◌, List, length, get_or, set, arith, sym, subst, inl, inr}
use Rattle.std.proofs.lemmas.Bool.{cases_lt}
use Rattle.std.proofs.lemmas.List.{get_or-set_same, get_or-set_other}

-- a fact of each place below i, and of the item that is put at i
pub filled : {X : Type 0} (P : ℕ → X → Type 0) (xs : List X) (d x : X) (i : ℕ) → i < length xs →
    ((k : ℕ) → k < i → P k (get_or xs k d)) → P i x → (k : ℕ) → k < i + 1 → P k (get_or (set xs i x) k d)
filled P xs d x i inside before here k below = elim (cases_lt k i) [
  | inl less ↦ subst (P k) (sym (get_or-set_other xs i k x d (λ e. omega (arith, less, e)))) (before k less)
  | inr more ↦
      let e : k ≡ i = omega (arith, more, below) in
      subst (λ n. P n (get_or (set xs i x) n d)) (sym e) (subst (P i) (sym (get_or-set_same xs i x d inside)) here)
]
