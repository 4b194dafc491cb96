-- The text of the report determines what it shows.
use Rattle.std.proofs.Common.{◌≡◌, ◌<◌, ◌^◌, ℕ, ℤ, List, [], ◌∷◌, ◌++◌, drop, FitsSigned, w32, refl, ap, ◌∙◌}
use Rattle.std.specs.Prelude.{codes}
use Rattle.std.specs.List.{AllByRecursion}
use Rattle.std.proofs.lemmas.List.Elements.{recursion_from_All}
use Rattle.gic_case.specs.Lists.{Lists}
use Rattle.gic_text.specs.Words.{IsLine}
use Rattle.gic_text.proofs.Injective.{lines_injective}
use Rattle.gic_text.proofs.Words.{word_from_test}
use Rattle.gic_report.specs.Fits.{HasNames}
use Rattle.gic_report.specs.SharedLines.{Words, word_line}
use Rattle.gic_report.proofs.CaseNames.{transformer_names}
use Rattle.gic_report.proofs.WordsDetermined.{first_of_lines, same_32, same_natural, word_at, word_of_32, word_of_natural}
use Rattle.gic_worst.specs.Rows.{ScreenRowView}
use Rattle.gic_worst.specs.ScreenLines.{screened_transformer_lines, IsRowInRange}
use Rattle.gic_worst.proofs.RowsDetermined.{are_lines, same_lines}
use Rattle.gic_robust.specs.RobustText.{robust_report, robust_setting_line}
use Rattle.gic_robust.specs.Determines.{Shown, IsShownOf, TextDeterminesRobust}

-- the setting's line is one
setting_is_line : (width threshold : ℕ) (field : ℤ) (tolerance : ℕ) → width < 2 ^ 32 → threshold < 2 ^ 32 → FitsSigned w32 field → tolerance < 2 ^ 32
    → IsLine (robust_setting_line width threshold field tolerance)
setting_is_line width threshold field tolerance w t f p = (
  word_from_test (codes "width") refl,
  (
    word_of_natural width w,
    (
      word_from_test (codes "threshold") refl,
      (
        word_of_natural threshold t,
        (
          word_from_test (codes "field") refl,
          (word_of_32 field f, (word_from_test (codes "tolerance") refl, (word_of_natural tolerance p, tt))),
        ),
      ),
    ),
  ),
)

-- the setting's line, and the lines of a report, of what is shown
abbrev setting_of : Shown → Words
setting_of shown = robust_setting_line shown.width shown.threshold shown.field shown.tolerance

abbrev report_of : Lists → Shown → List Words
report_of case shown = robust_report case.transformers shown.width shown.threshold shown.field shown.tolerance shown.rows

-- each of the report's lines is one
report_is_lines : (case : Lists) → HasNames case → (shown : Shown) → IsShownOf case shown → AllByRecursion IsLine (report_of case shown)
report_is_lines case named shown is = (
  (word_from_test (codes "robust") refl, tt),
  (
    setting_is_line shown.width shown.threshold shown.field shown.tolerance is.width_fits is.threshold_fits is.field_fits is.tolerance_fits,
    are_lines shown.threshold case.transformers shown.rows (transformer_names case named) (recursion_from_All IsRowInRange shown.rows is.rows_fit),
  ),
)

abbrev shown_with : ℕ → ℕ → ℤ → ℕ → List ScreenRowView → Shown
shown_with width threshold field tolerance rows =
    record { width = width; threshold = threshold; field = field; tolerance = tolerance; rows = rows }

-- the text of the report determines all that it shows
pub report_determined : TextDeterminesRobust
report_determined case named one other p q e =
    let words = lines_injective (report_of case one) (report_of case other) (report_is_lines case named one p) (report_is_lines case named other q) e in
    let setting : setting_of one ≡ setting_of other = ap (λ ls. first_of_lines ls) (ap (drop 1) words) in
    let later : screened_transformer_lines one.threshold case.transformers one.rows ++ word_line (codes "end") ∷ []
    ≡ screened_transformer_lines other.threshold case.transformers other.rows ++ word_line (codes "end") ∷ [] = ap (drop 2) words in
    let width = same_natural one.width other.width p.width_fits q.width_fits (ap (λ ws. word_at ws 1) setting) in
    let threshold = same_natural one.threshold other.threshold p.threshold_fits q.threshold_fits (ap (λ ws. word_at ws 3) setting) in
    let field = same_32 one.field other.field p.field_fits q.field_fits (ap (λ ws. word_at ws 5) setting) in
    let tolerance = same_natural one.tolerance other.tolerance p.tolerance_fits q.tolerance_fits (ap (λ ws. word_at ws 7) setting) in
    let rows = same_lines one.threshold other.threshold case.transformers one.rows other.rows p.count q.count
    (recursion_from_All IsRowInRange one.rows p.rows_fit) (recursion_from_All IsRowInRange other.rows q.rows_fit) later in
    ap (λ w. shown_with w one.threshold one.field one.tolerance one.rows) width ∙
    ap (λ t. shown_with other.width t one.field one.tolerance one.rows) threshold ∙
    ap (λ f. shown_with other.width other.threshold f one.tolerance one.rows) field ∙
    ap (λ t. shown_with other.width other.threshold other.field t one.rows) tolerance ∙
    ap (λ rs. shown_with other.width other.threshold other.field other.tolerance rs) rows
