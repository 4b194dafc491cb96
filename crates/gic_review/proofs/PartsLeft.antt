-- The parts that are left to be told.
use Rattle.std.proofs.Common.{◌≡◌, ◌∙◌, ℕ, List, [], ◌∷◌, ◌++◌, ◌⊎◌, inl, inr, refl, ap, sym, append_assoc, append-nil}
use Rattle.gic_review.specs.declared.findings.finding.Finding.{Finding}
use Rattle.gic_review.specs.Parts.{part_told, parts_told}

-- what follows where one of two iterators has ended
pub either_ended : {S T : Type 0} {P : S → Type 0} {Q : T → Type 0} (a b : Type 0) → ((s : S) → P s → a) → ((t : T) → Q t → b) → ((s : S) × P s) ⊎ ((t : T) × Q t) → a ⊎ b
either_ended a b f g (inl h) = inl (f h.0 h.1)
either_ended a b f g (inr h) = inr (g h.0 h.1)

-- what is left begins with what is told of the next node
next_part : (names others : List (List ℕ)) (sizes later : List ℕ) (name : List ℕ) (size : ℕ) → (names ≡ name ∷ others) × (sizes ≡ size ∷ later) → parts_told names sizes ≡ part_told name size ++ parts_told others later
next_part names others sizes later name size e =
    ap (λ (n : List (List ℕ)). parts_told n sizes) e.0 ∙ ap (λ (s : List ℕ). parts_told (name ∷ others) s) e.1

pub part_pushed : (names others : List (List ℕ)) (sizes later : List ℕ) (name : List ℕ) (size : ℕ) (old new whole : List Finding) → (names ≡ name ∷ others) × (sizes ≡ size ∷ later)
    → new ≡ old ++ part_told name size → old ++ parts_told names sizes ≡ whole → new ++ parts_told others later ≡ whole
part_pushed names others sizes later name size old new whole e told before =
    ap (λ (n : List Finding). n ++ parts_told others later) told ∙ append_assoc old (part_told name size) (parts_told others later)
    ∙ ap (λ (r : List Finding). old ++ r) (sym (next_part names others sizes later name size e)) ∙ before

-- and where no node or no size is left, nothing
no_part_left : (names : List (List ℕ)) (sizes : List ℕ) → (names ≡ []) ⊎ (sizes ≡ []) → parts_told names sizes ≡ []
no_part_left [] sizes e = refl
no_part_left (name ∷ names) [] e = refl
no_part_left (name ∷ names) (size ∷ sizes) (inl e) = absurd (let f : name ∷ names ≡ [] = e in cc)
no_part_left (name ∷ names) (size ∷ sizes) (inr e) = absurd (let f : size ∷ sizes ≡ [] = e in cc)

pub parts_ended : (names : List (List ℕ)) (sizes : List ℕ) (now whole : List Finding) → (names ≡ []) ⊎ (sizes ≡ []) → now ++ parts_told names sizes ≡ whole → now ≡ whole
parts_ended names sizes now whole none is = sym (append-nil now) ∙ ap (λ (r : List Finding). now ++ r) (sym (no_part_left names sizes none)) ∙ is
