-- Lists that are written place by place.
use Rattle.std.proofs.Common.{◌≡◌, ℕ, ◌+◌, ◌<◌, ◌≤◌, List, length, get_or, set, arith, sym, ◌∙◌, subst, inl, inr}
use Rattle.std.proofs.lemmas.Bool.{cases_lt}
use Rattle.std.proofs.lemmas.List.{get_or-set_same, get_or-set_other}

-- each place below i has what f says, and the others have what they had before
pub record IsWritten {X : Type 0} (f : ℕ → X) (before now : List X) (d : X) (i : ℕ) : Type 0 where
  pub done : (k : ℕ) → k < i → get_or now k d ≡ f k
  pub ahead : (k : ℕ) → i ≤ k → get_or now k d ≡ get_or before k d

pub written : {X : Type 0} (f : ℕ → X) (before now : List X) (d x : X) (i : ℕ) → i < length now → x ≡ f i → IsWritten f before now d i → IsWritten f before (set now i x) d (i + 1)
written f before now d x i inside is w = record {
  done = λ k below. elim (cases_lt k i) [
    | inl less ↦ get_or-set_other now i k x d (λ e. omega (arith, less, e)) ∙ w.done k less
    | inr more ↦
        let e : k ≡ i = omega (arith, more, below) in
        subst (λ n. get_or (set now i x) n d ≡ f n) (sym e) (get_or-set_same now i x d inside ∙ is)
  ];
  ahead = λ k above. get_or-set_other now i k x d (λ e. omega (arith, above, e)) ∙ w.ahead k (omega (arith, above));
}
