-- The nodes of a list, and what a test finds in lists that a filter kept.
use Rattle.std.proofs.Common.{◌≡◌, ◌⊎◌, ℕ, ◌<◌, Bool, true, false, cond, ◌||◌, ◌==◌, List, [], ◌∷◌, ◌++◌, length, get_or, refl, sym, ◌∙◌, inl, inr, eqb-true, eq-eqb}
use Rattle.std.proofs.lemmas.Bool.{or_cases, or_left, or_right}
use Rattle.std.proofs.lemmas.List.{append-nil}
use Rattle.std.proofs.lemmas.List.Folds.{list_any-append, list_any_at}
use Rattle.std.specs.List.{list_any, filter}
use Rattle.gic_model.specs.declared.parts.End.{End}
use Rattle.gic_model.specs.declared.parts.End.TheVariants.{Node, Earth}
use Rattle.gic_net.specs.Scratch.{is_reached, IsReached, with_node}
use Rattle.gic_net.specs.Spread.{IsReachedEnd}

-- what is found among the kept is found among all
pub any_of_kept : {X : Type 0} (t s : X → Bool) (xs : List X) → list_any t (filter s xs) ≡ true → list_any t xs ≡ true
any_of_kept t s [] h = h
any_of_kept t s (x ∷ xs) h = by (s x) (any_of_kept t s xs) h
  where
    by : (b : Bool) → (list_any t (filter s xs) ≡ true → list_any t xs ≡ true) → list_any t (cond b (x ∷ filter s xs) (filter s xs)) ≡ true → (t x || list_any t xs) ≡ true
    by true rest found = elim (or_cases (t x) (list_any t (filter s xs)) found) [ inl here ↦ or_left (t x) (list_any t xs) here | inr later ↦ or_right (t x) (list_any t xs) (rest later) ]
    by false rest found = or_right (t x) (list_any t xs) (rest found)

-- what is kept by the filter is found there
pub any_kept : {X : Type 0} (t s : X → Bool) → ((x : X) → t x ≡ true → s x ≡ true) → (xs : List X) → list_any t xs ≡ true → list_any t (filter s xs) ≡ true
any_kept t s leads [] h = h
any_kept t s leads (x ∷ xs) h = by (s x) refl (any_kept t s leads xs) (or_cases (t x) (list_any t xs) h)
  where
    no_way : false ≡ true → ⊥
    no_way e = cc

    by : (b : Bool) → s x ≡ b → (list_any t xs ≡ true → list_any t (filter s xs) ≡ true) → (t x ≡ true) ⊎ (list_any t xs ≡ true) → list_any t (cond b (x ∷ filter s xs) (filter s xs)) ≡ true
    by true is rest (inl here) = or_left (t x) (list_any t (filter s xs)) here
    by true is rest (inr later) = or_right (t x) (list_any t (filter s xs)) (rest later)
    by false is rest (inl here) = absurd (no_way (sym is ∙ leads x here))
    by false is rest (inr later) = rest later

-- a test that leads to another
pub any_weaker : {X : Type 0} (t s : X → Bool) → ((x : X) → t x ≡ true → s x ≡ true) → (xs : List X) → list_any t xs ≡ true → list_any s xs ≡ true
any_weaker t s leads [] h = h
any_weaker t s leads (x ∷ xs) h = elim (or_cases (t x) (list_any t xs) h) [
  | inl here ↦ or_left (s x) (list_any s xs) (leads x here)
  | inr later ↦ or_right (s x) (list_any s xs) (any_weaker t s leads xs later)
]

-- a node at a place of the list is one of its nodes
pub reached_at : (reached : List ℕ) (i : ℕ) → i < length reached → IsReached reached (get_or reached i 0)
reached_at reached i h = list_any_at (λ m. m == get_or reached i 0) reached i 0 h (eq-eqb (get_or reached i 0) (get_or reached i 0) refl)

-- more nodes at the end
pub reached_more : (reached more : List ℕ) (k : ℕ) → IsReached reached k → IsReached (reached ++ more) k
reached_more reached more k h = list_any-append (λ m. m == k) reached more ∙ or_left (is_reached reached k) (is_reached more k) h

-- one more node
pub with_more : (reached : List ℕ) (k : ℕ) → (more : List ℕ) × (with_node reached k ≡ reached ++ more)
with_more reached k = by (is_reached reached k)
  where
    by : (b : Bool) → (more : List ℕ) × (cond b reached (reached ++ k ∷ []) ≡ reached ++ more)
    by true = ([], sym (append-nil reached))
    by false = (k ∷ [], refl)

pub with_kept : (reached : List ℕ) (k m : ℕ) → IsReached reached m → IsReached (with_node reached k) m
with_kept reached k m h = by (is_reached reached k)
  where
    by : (b : Bool) → IsReached (cond b reached (reached ++ k ∷ [])) m
    by true = h
    by false = reached_more reached (k ∷ []) m h

pub with_itself : (reached : List ℕ) (k : ℕ) → IsReached (with_node reached k) k
with_itself reached k = by (is_reached reached k) refl
  where
    by : (b : Bool) → is_reached reached k ≡ b → IsReached (cond b reached (reached ++ k ∷ [])) k
    by true is = is
    by false is = list_any-append (λ m. m == k) reached (k ∷ []) ∙ or_right (is_reached reached k) ((k == k) || false) (or_left (k == k) false (eq-eqb k k refl))

pub with_only : (reached : List ℕ) (k m : ℕ) → IsReached (with_node reached k) m → IsReached reached m ⊎ (k ≡ m)
with_only reached k m h = by (is_reached reached k) h
  where
    no_way : false ≡ true → ⊥
    no_way e = cc

    last : ((k == m) || false) ≡ true → k ≡ m
    last found = elim (or_cases (k == m) false found) [ inl same ↦ eqb-true k m same | inr never ↦ absurd (no_way never) ]

    by : (b : Bool) → IsReached (cond b reached (reached ++ k ∷ [])) m → IsReached reached m ⊎ (k ≡ m)
    by true found = inl found
    by false found = elim (or_cases (is_reached reached m) ((k == m) || false) (sym (list_any-append (λ n. n == m) reached (k ∷ [])) ∙ found)) [
      | inl before ↦ inl before
      | inr now ↦ inr (last now)
    ]

pub with_end : (reached : List ℕ) (k : ℕ) (t : End) → IsReachedEnd reached t → IsReachedEnd (with_node reached k) t
with_end reached k (Node m) h = with_kept reached k m.0 h
with_end reached k Earth h = tt
