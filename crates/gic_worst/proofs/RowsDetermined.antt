-- The lines of transformers determine their rows.
use Rattle.std.proofs.Common.{◌≡◌, ◌∙◌, ℕ, List, [], ◌∷◌, ◌++◌, map, length, refl, ap, arith}
use Rattle.std.specs.Prelude.{codes}
use Rattle.std.specs.List.{AllByRecursion}
use Rattle.gic_text.specs.Words.{IsWord, IsLine}
use Rattle.gic_text.proofs.Words.{word_from_test}
use Rattle.gic_case.specs.declared.item.Transformer.{Transformer}
use Rattle.gic_fixed.specs.Ends.{Ends}
use Rattle.gic_criteria.specs.declared.criterion.Verdict.{Verdict}
use Rattle.gic_report.specs.SharedLines.{word_line}
use Rattle.gic_report.proofs.ViewDetermined.{ends_words, same_ends}
use Rattle.gic_report.proofs.WordsDetermined.{pair_at, verdict_is_word}
use Rattle.gic_report.specs.VerdictText.{verdict_in}
use Rattle.gic_worst.specs.Rows.{ScreenRowView}
use Rattle.gic_worst.specs.ScreenLines.{screened_line, screened_transformer_line, screened_transformer_lines, IsRowInRange}

-- the line of a row is one
row_is_line : (name : List ℕ) (row : ScreenRowView) (said : Verdict) → IsWord name → IsRowInRange row → IsLine (screened_line name row said)
unfolding screened_line
row_is_line name row said n fits =
    let north = ends_words row.north fits.north_fits in
    let east = ends_words row.east fits.east_fits in
    let worst = ends_words row.worst fits.worst_fits in (
      word_from_test (codes "transformer") refl,
      (
        n,
        (
          word_from_test (codes "north") refl,
          (
            north.0,
            (
              north.1.0,
              (
                word_from_test (codes "east") refl,
                (east.0, (east.1.0, (word_from_test (codes "worst") refl, (worst.0, (worst.1.0, (verdict_is_word said, tt)))))),
              ),
            ),
          ),
        ),
      ),
    )

pub are_lines : (threshold : ℕ) (ts : List Transformer) (rows : List ScreenRowView) → AllByRecursion IsWord (map (λ t. t.name) ts) → AllByRecursion IsRowInRange rows
    → AllByRecursion IsLine (screened_transformer_lines threshold ts rows ++ word_line (codes "end") ∷ [])
are_lines threshold [] rows names h = ((word_from_test (codes "end") refl, tt), tt)
are_lines threshold (t ∷ ts) [] names h = ((word_from_test (codes "end") refl, tt), tt)
are_lines threshold (t ∷ ts) (row ∷ rows) names h = (row_is_line t.name row (verdict_in threshold t row.worst) names.0 h.0, are_lines threshold ts rows names.1 h.1)

-- the line of a row determines it
abbrev row_with : Ends → Ends → Ends → ScreenRowView
row_with a b c = record { north = a; east = b; worst = c }

same_row : (name : List ℕ) (row other : ScreenRowView) (said told : Verdict) → IsRowInRange row → IsRowInRange other → screened_line name row said ≡ screened_line name other told → row ≡ other
unfolding screened_line
same_row name row other said told h k e =
    let north = same_ends row.north other.north h.north_fits k.north_fits (ap (λ ws. pair_at ws 3) e) in
    let east = same_ends row.east other.east h.east_fits k.east_fits (ap (λ ws. pair_at ws 6) e) in
    let worst = same_ends row.worst other.worst h.worst_fits k.worst_fits (ap (λ ws. pair_at ws 9) e) in
    ap (λ a. row_with a row.east row.worst) north ∙ ap (λ b. row_with other.north b row.worst) east ∙ ap (λ c. row_with other.north other.east c) worst

-- the lines of the transformers determine the rows
pub same_lines : (threshold threshold' : ℕ) (ts : List Transformer) (xs ys : List ScreenRowView) → length xs ≡ length ts → length ys ≡ length ts → AllByRecursion IsRowInRange xs → AllByRecursion IsRowInRange ys
    → screened_transformer_lines threshold ts xs ++ word_line (codes "end") ∷ [] ≡ screened_transformer_lines threshold' ts ys ++ word_line (codes "end") ∷ [] → xs ≡ ys
same_lines threshold threshold' [] [] [] p q h k e = refl
same_lines threshold threshold' [] [] (y ∷ ys) p q h k e = absurd (omega (arith, q))
same_lines threshold threshold' [] (x ∷ xs) ys p q h k e = absurd (omega (arith, p))
same_lines threshold threshold' (t ∷ ts) [] ys p q h k e = absurd (omega (arith, p))
same_lines threshold threshold' (t ∷ ts) (x ∷ xs) [] p q h k e = absurd (omega (arith, q))
same_lines threshold threshold' (t ∷ ts) (x ∷ xs) (y ∷ ys) p q h k e =
    let both : screened_transformer_line threshold t x ∷ (screened_transformer_lines threshold ts xs ++ word_line (codes "end") ∷ []) ≡ screened_transformer_line threshold' t y ∷ (screened_transformer_lines threshold' ts ys ++ word_line (codes "end") ∷ []) = e in
    let line : screened_transformer_line threshold t x ≡ screened_transformer_line threshold' t y = cc in
    let later : screened_transformer_lines threshold ts xs ++ word_line (codes "end") ∷ [] ≡ screened_transformer_lines threshold' ts ys ++ word_line (codes "end") ∷ [] = cc in
    let here = same_row t.name x y (verdict_in threshold t x.worst) (verdict_in threshold' t y.worst) h.0 k.0 line in
    let more = same_lines threshold threshold' ts xs ys (omega (arith, p)) (omega (arith, q)) h.1 k.1 later in
    ap (λ z. z ∷ xs) here ∙ ap (λ zs. y ∷ zs) more
