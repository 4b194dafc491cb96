-- Texts of lines, joined.
use Rattle.std.proofs.Common.{◌≡◌, ℕ, List, [], ◌∷◌, ◌++◌, refl, sym, ap, ◌∙◌, append_assoc}
use Rattle.gic_text.specs.Lines.{line_text, lines_text}

-- the text of some lines and more lines
pub lines_text-append : (xs ys : List (List (List ℕ))) → lines_text (xs ++ ys) ≡ lines_text xs ++ lines_text ys
lines_text-append [] ys = refl
lines_text-append (x ∷ xs) ys = ap (λ l. line_text x ++ l) (lines_text-append xs ys) ∙ sym (append_assoc (line_text x) (lines_text xs) (lines_text ys))
