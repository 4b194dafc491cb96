-- The lines of the nodes that are left.
use Rattle.std.proofs.Common.{◌≡◌, ◌∙◌, ℕ, Bool, List, [], ◌∷◌, ◌++◌, ◌⊎◌, inl, inr, refl, ap}
use Rattle.gic_text.specs.Lines.{line_text, lines_text}
use Rattle.gic_check.specs.CheckText.{state_line, state_lines}

-- what follows where one of two iterators has ended
pub either_ended : {S T : Type 0} {P : S → Type 0} {Q : T → Type 0} (a b : Type 0) → ((s : S) → P s → a) → ((t : T) → Q t → b) → ((s : S) × P s) ⊎ ((t : T) × Q t) → a ⊎ b
either_ended a b f g (inl h) = inl (f h.0 h.1)
either_ended a b f g (inr h) = inr (g h.0 h.1)

-- what is left begins with the line of the next node
pub next_state : (names others : List (List ℕ)) (live later : List Bool) (name : List ℕ) (is_live : Bool) → (names ≡ name ∷ others) × (live ≡ is_live ∷ later) →
    lines_text (state_lines names live) ≡ line_text (state_line name is_live) ++ lines_text (state_lines others later)
next_state names others live later name is_live e =
    ap (λ n. lines_text (state_lines n live)) e.0 ∙ ap (λ l. lines_text (state_lines (name ∷ others) l)) e.1

-- and where no name or no state is left, nothing
pub no_state_left : (names : List (List ℕ)) (live : List Bool) → (names ≡ []) ⊎ (live ≡ []) → lines_text (state_lines names live) ≡ []
no_state_left [] live e = refl
no_state_left (name ∷ names) [] e = refl
no_state_left (name ∷ names) (is_live ∷ live) (inl e) = absurd (let f : name ∷ names ≡ [] = e in cc)
no_state_left (name ∷ names) (is_live ∷ live) (inr e) = absurd (let f : is_live ∷ live ≡ [] = e in cc)
