-- One place of a list is written.
use Rattle.std.proofs.Common.{◌≡◌, ℕ, ◌+◌, ◌<◌, ◌≤◌, List, length, set, ℤ, pos, arith, ap, ◌∙◌, sym, ◌⊎◌, inl, inr, ⊎_elim}
use Rattle.std.proofs.lemmas.List.{get_or-set_same, get_or-set_other, get_or_past}
use Rattle.std.proofs.lemmas.Bool.{cases_eq}
use Rattle.gic_model.specs.Voltages.{number_at}

-- a written place, and the others
pub written : (xs : List ℤ) (n k : ℕ) (w : ℤ) → n < length xs → ((k ≡ n) × (number_at (set xs n w) k ≡ w)) ⊎ ((k ≡ n → ⊥) × (number_at (set xs n w) k ≡ number_at xs k))
written xs n k w h =
    ⊎_elim (λ e. inl (e, ap (λ i. number_at (set xs n w) i) e ∙ get_or-set_same xs n w (pos 0) h))
    (λ d. inr (d, get_or-set_other xs n k w (pos 0) d))
    (cases_eq k n)

pub before : (k n : ℕ) → (k ≡ n → ⊥) → k < n + 1 → k < n
before k n d h = omega arith

pub past : (xs ys : List ℤ) (k : ℕ) → length xs ≤ k → length ys ≤ k → number_at xs k ≡ number_at ys k
past xs ys k h g = get_or_past xs k (pos 0) h ∙ sym (get_or_past ys k (pos 0) g)

pub past_zero : (xs : List ℤ) (k : ℕ) → length xs ≤ k → number_at xs k ≡ pos 0
past_zero xs k h = get_or_past xs k (pos 0) h
