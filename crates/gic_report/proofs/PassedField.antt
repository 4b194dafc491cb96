-- The line of a field whose numbers are passed by their bits.
use Rattle.std.proofs.Common.{◌≡◌, ◌∙◌, ℤ, FitsSigned, w32, to_z, of_z, List, [], ◌∷◌, ◌++◌, ap}
use Rattle.std.proofs.lemmas.Int.{to_z-of_z}
use Rattle.gic_text.specs.Lines.{line_text, lines_text}
use Rattle.gic_report.specs.SharedLines.{Words, field_line}
use Rattle.gic_report.proofs.Framed.{framed}

unfoldable pub passed_line : ℤ → ℤ → Words
passed_line north east = field_line (to_z w32 (of_z w32 north)) (to_z w32 (of_z w32 east))

-- it is the line of the field
same_line : (north east : ℤ) → FitsSigned w32 north → FitsSigned w32 east → passed_line north east ≡ field_line north east
unfolding passed_line
same_line north east n e =
    ap (λ y. field_line (to_z w32 (of_z w32 north)) y) (to_z-of_z w32 east e) ∙ ap (λ x. field_line x east) (to_z-of_z w32 north n)

-- a report in which it is the second line, in the pieces in which it is written
pub framed_field : (first : Words) (north east : ℤ) (body : List Words) (last : Words) → FitsSigned w32 north → FitsSigned w32 east
    → line_text first ++ (line_text (passed_line north east) ++ (lines_text body ++ line_text last)) ≡ lines_text (first ∷ field_line north east ∷ (body ++ last ∷ []))
framed_field first north east body last n e =
    framed first (passed_line north east) body last ∙ ap (λ (l : Words). lines_text (first ∷ l ∷ (body ++ last ∷ []))) (same_line north east n e)
