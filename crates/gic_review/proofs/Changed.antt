-- A walk along a list that changes each item.
use Rattle.std.proofs.Common.{◌≡◌, ℕ, ◌+◌, ◌<◌, ◌≤◌, List, length, map, get_or, set, refl, ap, sym, ◌∙◌, arith, inl, inr}
use Rattle.std.proofs.lemmas.Bool.{cases_eq}
use Rattle.std.proofs.lemmas.List.{length-map, length-set, get_or-set_same, get_or-set_other, get_or-map, ext_get_or}

-- what is ahead is as it was, and what is behind is what f makes of it
pub record Changed {X : Type 0} (f : X → X) (d : X) (old now : List X) (i : ℕ) : Type 0 where
  pub count : length now ≡ length old
  pub ahead : (k : ℕ) → i ≤ k → get_or now k d ≡ get_or old k d
  pub behind : (k : ℕ) → k < i → get_or now k d ≡ f (get_or old k d)

-- nothing was changed yet
pub unchanged : {X : Type 0} (f : X → X) (d : X) (old : List X) → Changed f d old old 0
unchanged f d old = record { count = refl; ahead = λ k h. refl; behind = λ k h. absurd (omega (arith, h)) }

-- the next item is written
pub change : {X : Type 0} (f : X → X) (d : X) (old now : List X) (i : ℕ) (x : X) → i < length old → x ≡ f (get_or now i d) → Changed f d old now i → Changed f d old (set now i x) (i + 1)
change f d old now i x within is h = record {
  count = length-set now i x ∙ h.count;
  ahead = λ k past. get_or-set_other now i k x d (λ e. absurd (omega (arith, e, past))) ∙ h.ahead k (omega (arith, past));
  behind = λ k before. elim (cases_eq k i) [
    | inl here ↦
        let inside : i < length now = omega (arith, within, h.count) in
        ap (λ (j : ℕ). get_or (set now i x) j d) here ∙ get_or-set_same now i x d inside ∙ is ∙ ap f (h.ahead i (omega arith)) ∙ ap (λ (j : ℕ). f (get_or old j d)) (sym here)
    | inr other ↦ get_or-set_other now i k x d other ∙ h.behind k (omega (arith, before, other))
  ];
}

-- or it is what f makes of it already
pub keep : {X : Type 0} (f : X → X) (d : X) (old now : List X) (i : ℕ) → f (get_or now i d) ≡ get_or now i d → Changed f d old now i → Changed f d old now (i + 1)
keep f d old now i is h = record {
  count = h.count;
  ahead = λ k past. h.ahead k (omega (arith, past));
  behind = λ k before. elim (cases_eq k i) [
    | inl here ↦ ap (λ (j : ℕ). get_or now j d) here ∙ sym is ∙ ap f (h.ahead i (omega arith)) ∙ ap (λ (j : ℕ). f (get_or old j d)) (sym here)
    | inr other ↦ h.behind k (omega (arith, before, other))
  ];
}

-- at the end each item is what f makes of it
pub changed : {X : Type 0} (f : X → X) (d : X) (old now : List X) (i : ℕ) → length old ≤ i → Changed f d old now i → now ≡ map f old
changed f d old now i past h =
    ext_get_or d now (map f old) (h.count ∙ sym (length-map old f))
    (λ k within. h.behind k (omega (arith, within, past, h.count)) ∙ sym (get_or-map f old k d d (omega (arith, within, h.count))))
