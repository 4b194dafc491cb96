-- The lines of the transformers that are left.
use Rattle.std.proofs.Common.{◌≡◌, ◌∙◌, ℕ, ◌+◌, ◌<◌, zero, suc, List, [], ◌∷◌, ◌++◌, length, drop, get_or, All, refl, sym, ap, arith, rules, add-one, drop-cons}
use Rattle.gic_fixed.specs.Ends.{Ends, zero_ends}
use Rattle.gic_text.specs.Lines.{line_text, lines_text}
use Rattle.gic_case.specs.declared.item.Transformer.{Transformer}
use Rattle.gic_report.specs.SharedLines.{Words}
use Rattle.gic_report.specs.Cells.{first_ends}
use Rattle.gic_view.specs.Absolute.{HasAbsolute}
use Rattle.gic_report.specs.ItemText.{per_transformer}

-- what is left begins with the line of the next
pub next_transformer : (line : Transformer → Ends → Words) (ts : List Transformer) (i : ℕ) (t : Transformer) (cells left : List Ends) (shown : Ends) → i < length ts → get_or ts i t ≡ t
    → shown ≡ first_ends cells → left ≡ drop 1 cells
    → lines_text (per_transformer line (drop i ts) cells) ≡ line_text (line t shown) ++ lines_text (per_transformer line (drop (i + 1) ts) left)
next_transformer line ts i t cells left shown h same e f =
    ap (λ l. lines_text (per_transformer line l cells)) (drop-cons ts i t h)
    ∙ ap (λ x. line_text (line x (first_ends cells)) ++ lines_text (per_transformer line (drop (suc i) ts) (drop 1 cells))) same
    ∙ ap (λ s. line_text (line t s) ++ lines_text (per_transformer line (drop (suc i) ts) (drop 1 cells))) (sym e)
    ∙ ap (λ l. line_text (line t shown) ++ lines_text (per_transformer line (drop (suc i) ts) l)) (sym f)
    ∙ ap (λ k. line_text (line t shown) ++ lines_text (per_transformer line (drop k ts) left)) (sym (add-one i))

-- the next interval has an absolute value, and so have the later ones
pub first_absolute : (cells : List Ends) → All HasAbsolute cells → HasAbsolute (first_ends cells)
first_absolute [] h = search rules
first_absolute (e ∷ es) h = h 0 e (omega arith)

pub later_absolute : (cells : List Ends) → All HasAbsolute cells → All HasAbsolute (drop 1 cells)
later_absolute [] h = h
later_absolute (e ∷ es) h = λ n d lt. h (suc n) d (omega (arith, lt))

-- the line at a place
pub line_at : (line : Transformer → Ends → Words) (ts : List Transformer) (cells : List Ends) (place : ℕ) (d : Transformer) → place < length ts
    → get_or (per_transformer line ts cells) place [] ≡ line (get_or ts place d) (get_or cells place zero_ends)
line_at line [] cells place d h = absurd (omega (arith, h))
line_at line (t ∷ ts) cells zero d h = refl
line_at line (t ∷ ts) [] (suc place) d h = line_at line ts [] place d (omega (arith, h))
line_at line (t ∷ ts) (e ∷ es) (suc place) d h = line_at line ts es place d (omega (arith, h))
