-- The text of the report determines what it shows.
use Rattle.std.proofs.Common.{◌≡◌, ◌∙◌, ℕ, ◌+◌, ◌<◌, ◌^◌, List, [], ◌∷◌, ◌++◌, map, length, drop, get_or, inl, inr, refl, sym, ap, subst, subst₂, arith, length-append}
use Rattle.std.specs.Prelude.{◌≢◌, AllPairs, codes}
use Rattle.std.specs.List.{AllByRecursion}
use Rattle.std.proofs.lemmas.Bool.{cases_lt}
use Rattle.std.proofs.lemmas.List.{get_or-append-add, get_or-map, length-map}
use Rattle.std.proofs.lemmas.List.Elements.{recursion_from_All}
use Rattle.gic_text.specs.Words.{IsWord, IsLine}
use Rattle.gic_text.proofs.Injective.{lines_injective}
use Rattle.gic_text.proofs.Words.{word_from_test, word_decimal}
use Rattle.gic_case.specs.Lists.{Lists}
use Rattle.gic_case.specs.Sound.{IsSound}
use Rattle.gic_fixed.specs.Ends.{Ends}
use Rattle.gic_winding.specs.Weights.{transformer_at, no_transformer}
use Rattle.gic_report.specs.SharedLines.{Words, word_line}
use Rattle.gic_report.proofs.CaseNames.{transformer_names}
use Rattle.gic_report.proofs.ListParts.{all_at}
use Rattle.gic_report.proofs.ViewDetermined.{ends_words, same_ends}
use Rattle.gic_report.proofs.WordsDetermined.{first_of_lines, same_natural, word_at}
use Rattle.gic_series.specs.Rows.{SeriesRowView}
use Rattle.gic_series.specs.SeriesText.{series_setting_line, series_step_line, series_report}
use Rattle.gic_series.specs.Determines.{IsRowInRange, TextDeterminesSeries}

-- ---- lines

setting_is_line : (width : ℕ) (name : List ℕ) (steps : ℕ) → width < 2 ^ 32 → IsWord name → steps < 2 ^ 32 → IsLine (series_setting_line width name steps)
setting_is_line width name steps w n s = (
  word_from_test (codes "width") refl,
  (
    word_decimal width (omega (arith, w)),
    (word_from_test (codes "transformer") refl, (n, (word_from_test (codes "steps") refl, (word_decimal steps (omega (arith, s)), tt)))),
  ),
)

step_is_line : (row : SeriesRowView) → IsRowInRange row → IsLine (series_step_line row)
step_is_line row h = (
  word_from_test (codes "step") refl,
  (
    word_decimal row.number (omega (arith, h.number_fits)),
    (word_from_test (codes "time") refl, (word_decimal row.time (omega (arith, h.time_fits)), ends_words row.effective h.effective_fits)),
  ),
)

are_lines : (rows : List SeriesRowView) → AllByRecursion IsRowInRange rows → AllByRecursion IsLine (map series_step_line rows ++ word_line (codes "end") ∷ [])
are_lines [] h = ((word_from_test (codes "end") refl, tt), tt)
are_lines (row ∷ rows) h = (step_is_line row h.0, are_lines rows h.1)

report_is_lines : (width : ℕ) (name : List ℕ) (rows : List SeriesRowView) → width < 2 ^ 32 → IsWord name → length rows < 2 ^ 32 → AllByRecursion IsRowInRange rows → AllByRecursion IsLine (series_report width name rows)
report_is_lines width name rows w n s h = ((word_from_test (codes "series") refl, tt), (setting_is_line width name (length rows) w n s, are_lines rows h))

-- ---- the line of a step determines its row

abbrev row_with : ℕ → ℕ → Ends → SeriesRowView
row_with number time effective = record { number = number; time = time; effective = effective }

same_row : (row other : SeriesRowView) → IsRowInRange row → IsRowInRange other → series_step_line row ≡ series_step_line other → row ≡ other
same_row row other h k e =
    let number = same_natural row.number other.number h.number_fits k.number_fits (ap (λ ws. word_at ws 1) e) in
    let time = same_natural row.time other.time h.time_fits k.time_fits (ap (λ ws. word_at ws 3) e) in
    let effective = same_ends row.effective other.effective h.effective_fits k.effective_fits (ap (λ (ws : Words). drop 4 ws) e) in
    ap (λ n. row_with n row.time row.effective) number ∙ ap (λ t. row_with other.number t row.effective) time ∙ ap (λ i. row_with other.number other.time i) effective

-- those of all steps determine the rows
same_rows : (xs ys : List SeriesRowView) → length xs ≡ length ys → AllByRecursion IsRowInRange xs → AllByRecursion IsRowInRange ys
    → map series_step_line xs ++ word_line (codes "end") ∷ [] ≡ map series_step_line ys ++ word_line (codes "end") ∷ [] → xs ≡ ys
same_rows [] [] p h k e = refl
same_rows [] (y ∷ ys) p h k e = absurd (omega (arith, p))
same_rows (x ∷ xs) [] p h k e = absurd (omega (arith, p))
same_rows (x ∷ xs) (y ∷ ys) p h k e =
    let both : series_step_line x ∷ (map series_step_line xs ++ word_line (codes "end") ∷ []) ≡ series_step_line y ∷ (map series_step_line ys ++ word_line (codes "end") ∷ []) = e in
    let line : series_step_line x ≡ series_step_line y = cc in
    let later : map series_step_line xs ++ word_line (codes "end") ∷ [] ≡ map series_step_line ys ++ word_line (codes "end") ∷ [] = cc in
    let here = same_row x y h.0 k.0 line in
    let more = same_rows xs ys (omega (arith, p)) h.1 k.1 later in
    ap (λ z. z ∷ xs) here ∙ ap (λ zs. y ∷ zs) more

-- ---- the name of a transformer determines its place

abbrev Differ : List (List ℕ) → Type 0
Differ names = AllPairs (λ x y. x ≢ y) names

later_differ : (xs ys : List (List ℕ)) → Differ (xs ++ ys) → Differ ys
later_differ xs ys differ i j d less within =
    subst₂ (λ (a b : List ℕ). a ≢ b) (get_or-append-add xs ys i d) (get_or-append-add xs ys j d)
    (differ (length xs + i) (length xs + j) d (omega (arith, less)) (omega (arith, within, length-append xs ys)))

same_place : (names : List (List ℕ)) → Differ names → (i j : ℕ) → i < length names → j < length names → get_or names i [] ≡ get_or names j [] → i ≡ j
same_place names differ i j inside within e =
    elim (cases_lt i j) [
      | inl before ↦ absurd (differ i j [] before within e)
      | inr behind ↦ elim (cases_lt j i) [
        | inl after ↦ absurd (differ j i [] after inside (sym e))
        | inr equal ↦ omega (arith, behind, equal)
      ]
    ]

module _ (case : Lists) (sound : IsSound case) where
  names : List (List ℕ)
  names = map (λ t. t.name) case.transformers

  names_differ : Differ names
  unfolding names
  names_differ =
      later_differ (map (λ l. l.name) case.lines) names
      (later_differ (map (λ b. b.name) case.buses) (map (λ l. l.name) case.lines ++ names)
      (later_differ (map (λ s. s.name) case.substations) (map (λ b. b.name) case.buses ++ (map (λ l. l.name) case.lines ++ names))
      (later_differ (map (λ z. z.name) case.zones) (map (λ s. s.name) case.substations ++ (map (λ b. b.name) case.buses ++ (map (λ l. l.name) case.lines ++ names))) sound.names_differ)))

  name_at : (t : ℕ) → t < length case.transformers → get_or names t [] ≡ (transformer_at case t).name
  unfolding names
  name_at t within = get_or-map (λ t. t.name) case.transformers t no_transformer [] within

  same_transformer : (t u : ℕ) → t < length case.transformers → u < length case.transformers → (transformer_at case t).name ≡ (transformer_at case u).name → t ≡ u
  unfolding names
  same_transformer t u inside within e =
      let many = length-map case.transformers (λ t. t.name) in
      same_place names names_differ t u (omega (arith, inside, many)) (omega (arith, within, many)) (name_at t inside ∙ e ∙ sym (name_at u within))

-- the name of a transformer is a word
word_of : (case : Lists) → IsSound case → (t : ℕ) → t < length case.transformers → IsWord (transformer_at case t).name
unfolding names
word_of case sound t within =
    subst IsWord (name_at case sound t within)
    (all_at IsWord (map (λ t. t.name) case.transformers) t [] (omega (arith, within, length-map case.transformers (λ t. t.name))) (transformer_names case sound.names_sound))

-- ---- the report

-- the text of the report determines all that it shows
pub report_determined : TextDeterminesSeries
report_determined case sound width t rows width' t' rows' p q e =
    let name = (transformer_at case t).name in
    let name' = (transformer_at case t').name in
    let fit = recursion_from_All IsRowInRange rows p.rows_fit in
    let fit' = recursion_from_All IsRowInRange rows' q.rows_fit in
    let words = lines_injective (series_report width name rows) (series_report width' name' rows')
    (report_is_lines width name rows p.width_fits (word_of case sound t p.within) p.count_fits fit)
    (report_is_lines width' name' rows' q.width_fits (word_of case sound t' q.within) q.count_fits fit') e in
    let setting : series_setting_line width name (length rows) ≡ series_setting_line width' name' (length rows') = ap (λ ls. first_of_lines ls) (ap (drop 1) words) in
    let later : map series_step_line rows ++ word_line (codes "end") ∷ [] ≡ map series_step_line rows' ++ word_line (codes "end") ∷ [] = ap (drop 2) words in
    let count = same_natural (length rows) (length rows') p.count_fits q.count_fits (ap (λ ws. word_at ws 5) setting) in
    record {
      same_width = same_natural width width' p.width_fits q.width_fits (ap (λ ws. word_at ws 1) setting);
      same_transformer = same_transformer case sound t t' p.within q.within (ap (λ ws. word_at ws 3) setting);
      same_rows = same_rows rows rows' count fit fit' later;
    }
