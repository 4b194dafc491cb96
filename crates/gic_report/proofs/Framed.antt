-- Reports in the pieces in which they are written.
use Rattle.std.proofs.Common.{◌≡◌, ℕ, ◌+◌, ◌<◌, List, [], ◌∷◌, ◌++◌, length, map, drop, get_or, sym, ap, ◌∙◌, append-nil, add-one, drop-cons}
use Rattle.gic_text.specs.Lines.{line_text, lines_text}
use Rattle.gic_text.proofs.Joined.{lines_text-append}
use Rattle.gic_report.specs.SharedLines.{Words}

-- the text of the lines that are left begins with that of the next
pub next_line : {A : Type 0} (f : A → Words) (xs : List A) (i : ℕ) (d : A) → i < length xs
    → lines_text (map f (drop i xs)) ≡ line_text (f (get_or xs i d)) ++ lines_text (map f (drop (i + 1) xs))
next_line f xs i d h =
    ap (λ l. lines_text (map f l)) (drop-cons xs i d h)
    ∙ ap (λ k. line_text (f (get_or xs i d)) ++ lines_text (map f (drop k xs))) (sym (add-one i))

-- a report of two lines, more lines and a last one
pub framed : (first second : Words) (body : List Words) (last : Words)
    → line_text first ++ (line_text second ++ (lines_text body ++ line_text last)) ≡ lines_text (first ∷ second ∷ (body ++ last ∷ []))
framed first second body last = sym (ap (λ l. line_text first ++ (line_text second ++ l)) (lines_text-append body (last ∷ []) ∙ ap (λ l. lines_text body ++ l) (append-nil (line_text last))))

-- a report of one line, more lines and two last ones
pub headed : (first : Words) (body : List Words) (count last : Words)
    → line_text first ++ (lines_text body ++ (line_text count ++ line_text last)) ≡ lines_text (first ∷ (body ++ count ∷ last ∷ []))
headed first body count last =
    sym (ap (λ l. line_text first ++ l) (lines_text-append body (count ∷ last ∷ []) ∙ ap (λ l. lines_text body ++ (line_text count ++ l)) (append-nil (line_text last))))
