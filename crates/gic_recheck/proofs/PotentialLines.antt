-- The lines of the nodes that are left.
use Rattle.std.proofs.Common.{◌≡◌, ◌∙◌, ℕ, List, [], ◌∷◌, ◌++◌, ◌⊎◌, inl, inr, Option, Some, None, option_to_list, refl, sym, ap, append-nil}
use Rattle.gic_fixed.specs.Ends.{Ends}
use Rattle.gic_report.specs.ItemText.{ends_words}
use Rattle.gic_text.specs.Lines.{line_text, lines_text}
use Rattle.std.specs.Prelude.{codes}
use Rattle.gic_recheck.specs.RecheckText.{potential_line, potential_lines}

-- the text of the first node's line, and of those behind it
first_of : (name : List ℕ) (others : List (List ℕ)) (interval : Option Ends) (later : List (Option Ends))
    → lines_text (potential_lines (name ∷ others) (interval ∷ later)) ≡ lines_text (option_to_list (potential_line name interval)) ++ lines_text (potential_lines others later)
first_of name others None later = refl
first_of name others (Some ends) later =
    ap (λ text. text ++ lines_text (potential_lines others later)) (sym (append-nil (line_text (codes "node" ∷ name ∷ ends_words ends))))

-- what is left begins with the line of the next node
pub next_potential : (names others : List (List ℕ)) (intervals later : List (Option Ends)) (name : List ℕ) (interval : Option Ends)
    → names ≡ name ∷ others → intervals ≡ interval ∷ later
    → lines_text (potential_lines names intervals) ≡ lines_text (option_to_list (potential_line name interval)) ++ lines_text (potential_lines others later)
next_potential names others intervals later name interval named is =
    ap (λ n. lines_text (potential_lines n intervals)) named ∙ (ap (λ l. lines_text (potential_lines (name ∷ others) l)) is ∙ first_of name others interval later)

-- and where no name or no interval is left, nothing
pub no_potential_left : (names : List (List ℕ)) (intervals : List (Option Ends)) → (names ≡ []) ⊎ (intervals ≡ []) → lines_text (potential_lines names intervals) ≡ []
no_potential_left [] intervals e = refl
no_potential_left (name ∷ names) [] e = refl
no_potential_left (name ∷ names) (interval ∷ intervals) (inl e) = absurd (let f : name ∷ names ≡ [] = e in cc)
no_potential_left (name ∷ names) (interval ∷ intervals) (inr e) = absurd (let f : interval ∷ intervals ≡ [] = e in cc)
