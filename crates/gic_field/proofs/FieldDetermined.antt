-- The text of the report in a uniform field determines what it shows.
use Rattle.std.proofs.Common.{◌≡◌, ◌∙◌, ℕ, ◌<◌, ◌^◌, List, [], ◌∷◌, ◌++◌, drop, ℤ, FitsSigned, w32, refl, sym, ap, append_assoc}
use Rattle.std.specs.Prelude.{codes}
use Rattle.std.specs.List.{AllByRecursion}
use Rattle.gic_view.specs.View.{View}
use Rattle.gic_text.specs.Words.{IsLine}
use Rattle.gic_text.specs.Lines.{lines_text}
use Rattle.gic_text.proofs.Injective.{lines_injective}
use Rattle.gic_text.proofs.Words.{word_from_test}
use Rattle.gic_case.specs.declared.item.Transformer.{Transformer}
use Rattle.gic_case.specs.Lists.{Lists, node_names}
use Rattle.gic_report.specs.SharedLines.{Words, word_line}
use Rattle.gic_report.specs.ItemText.{effective_lines, node_lines, row_lines, item_rows_of}
use Rattle.gic_report.specs.declared.rows.ItemRow.{ItemRow}
use Rattle.gic_field.specs.FieldText.{field_report, field_setting_line}
use Rattle.gic_report.specs.VerdictText.{transformer_lines}
use Rattle.gic_field.specs.Determines.{AreShownOf, ShowsSame, TextDeterminesField}
use Rattle.gic_report.proofs.ShownViews.{AreNamed, IsShown, are_items, case_named, case_shown, same_items}
use Rattle.gic_report.proofs.ViewDetermined.{are_effectives, are_transformers, same_effectives}
use Rattle.gic_report.proofs.WordsDetermined.{first_of_lines, same_32, same_natural, word_at, word_of_32, word_of_natural}

module _ (names : List (List ℕ)) (rows : List ItemRow) (ts : List Transformer) where
  -- the lines behind those of the rows, and those from the nodes on
  abbrev behind : (threshold : ℕ) → View → List Words
  behind threshold view = effective_lines ts view.effective ++ (transformer_lines threshold ts view.effective ++ word_line (codes "end") ∷ [])

  abbrev body : (threshold : ℕ) → View → List Words
  body threshold view = node_lines names view.nodes ++ (row_lines rows view.elements ++ behind threshold view)

  abbrev pub lines : (north east : ℤ) (width threshold : ℕ) → View → List Words
  lines north east width threshold view = word_line (codes "field") ∷ field_setting_line north east width threshold ∷ body threshold view

  -- the numbers fit, and the view can be shown of these
  pub record Shown (north east : ℤ) (width threshold : ℕ) (view : View) : Type 0 where
    pub north_fits : FitsSigned w32 north
    pub east_fits : FitsSigned w32 east
    pub width_fits : width < 2 ^ 32
    pub threshold_fits : threshold < 2 ^ 32
    pub view_shown : IsShown names rows ts view

  setting_words : (north east : ℤ) (width threshold : ℕ) (view : View) → Shown north east width threshold view → IsLine (field_setting_line north east width threshold)
  setting_words north east width threshold view s = (
    word_from_test (codes "north") refl,
    (
      word_of_32 north s.north_fits,
      (
        word_from_test (codes "east") refl,
        (
          word_of_32 east s.east_fits,
          (
            word_from_test (codes "width") refl,
            (word_of_natural width s.width_fits, (word_from_test (codes "threshold") refl, (word_of_natural threshold s.threshold_fits, tt))),
          ),
        ),
      ),
    ),
  )

  are_lines : (north east : ℤ) (width threshold : ℕ) (view : View) → AreNamed names rows ts → Shown north east width threshold view → AllByRecursion IsLine (lines north east width threshold view)
  are_lines north east width threshold view named s =
      let last : AllByRecursion IsLine (word_line (codes "end") ∷ []) = ((word_from_test (codes "end") refl, tt), tt) in
      let after = are_transformers threshold ts view.effective (word_line (codes "end") ∷ []) named.transformer_words s.view_shown.transformer_count s.view_shown.effective_fit last in
      let currents = are_effectives ts view.effective _ named.transformer_words s.view_shown.transformer_count s.view_shown.effective_fit after in
      ((word_from_test (codes "field") refl, tt), (setting_words north east width threshold view s, are_items names rows ts view (behind threshold view) named s.view_shown currents))

  -- the text determines the numbers and the lists of the view
  pub field_determined : (north east : ℤ) (width threshold : ℕ) (view : View) (north' east' : ℤ) (width' threshold' : ℕ) (view' : View) → AreNamed names rows ts
      → Shown north east width threshold view → Shown north' east' width' threshold' view'
      → lines_text (lines north east width threshold view) ≡ lines_text (lines north' east' width' threshold' view') → ShowsSame north east width threshold view north' east' width' threshold' view'
  field_determined north east width threshold view north' east' width' threshold' view' named s s' e =
      let words = lines_injective (lines north east width threshold view) (lines north' east' width' threshold' view')
      (are_lines north east width threshold view named s) (are_lines north' east' width' threshold' view' named s') e in
      let both : word_line (codes "field") ∷ field_setting_line north east width threshold ∷ body threshold view ≡ word_line (codes "field") ∷ field_setting_line north' east' width' threshold' ∷ body threshold' view' = words in
      let setting : field_setting_line north east width threshold ≡ field_setting_line north' east' width' threshold' = ap (λ ls. first_of_lines ls) (ap (drop 1) words) in
      let later : body threshold view ≡ body threshold' view' = ap (drop 2) words in
      let items = same_items names rows ts view view' (behind threshold view) (behind threshold' view') s.view_shown s'.view_shown later in
      record {
        same_north = same_32 north north' s.north_fits s'.north_fits (ap (λ ws. word_at ws 1) setting);
        same_east = same_32 east east' s.east_fits s'.east_fits (ap (λ ws. word_at ws 3) setting);
        same_width = same_natural width width' s.width_fits s'.width_fits (ap (λ ws. word_at ws 5) setting);
        same_threshold = same_natural threshold threshold' s.threshold_fits s'.threshold_fits (ap (λ ws. word_at ws 7) setting);
        same_nodes = items.nodes;
        same_elements = items.elements;
        same_effective = same_effectives ts view.effective view'.effective _ _ s.view_shown.transformer_count s'.view_shown.transformer_count s.view_shown.effective_fit s'.view_shown.effective_fit items.behind;
      }

-- ---- on a case

shifted : (a b c d x : List Words) → ((a ++ (b ++ c)) ++ d) ++ x ≡ a ++ (b ++ (c ++ (d ++ x)))
shifted a b c d x = append_assoc (a ++ (b ++ c)) d x ∙ append_assoc a (b ++ c) (d ++ x) ∙ ap (λ l. a ++ l) (append_assoc b c (d ++ x))

report_lines : (case : Lists) (north east : ℤ) (width threshold : ℕ) (view : View)
    → field_report case north east width threshold view ≡ lines (node_names case) (item_rows_of case) case.transformers north east width threshold view
report_lines case north east width threshold view =
    ap (λ ls. word_line (codes "field") ∷ field_setting_line north east width threshold ∷ ls)
    (shifted (node_lines (node_names case) view.nodes) (row_lines (item_rows_of case) view.elements) (effective_lines case.transformers view.effective)
    (transformer_lines threshold case.transformers view.effective) (word_line (codes "end") ∷ []))

shown_of : (case : Lists) (north east : ℤ) (width threshold : ℕ) (view : View) → AreShownOf case north east width threshold view
    → Shown (node_names case) (item_rows_of case) case.transformers north east width threshold view
shown_of case north east width threshold view r = record {
  north_fits = r.north_fits;
  east_fits = r.east_fits;
  width_fits = r.width_fits;
  threshold_fits = r.threshold_fits;
  view_shown = case_shown case view r.lengths.nodes r.lengths.elements r.lengths.transformers r.ends_fit;
}

-- the text of the report in a uniform field determines all that it shows
pub report_determined : TextDeterminesField
report_determined case named north east width threshold view north' east' width' threshold' view' p q e =
    let text = ap lines_text (sym (report_lines case north east width threshold view)) ∙ e ∙ ap lines_text (report_lines case north' east' width' threshold' view') in
    field_determined (node_names case) (item_rows_of case) case.transformers north east width threshold view north' east' width' threshold' view' (case_named case named)
    (shown_of case north east width threshold view p) (shown_of case north' east' width' threshold' view' q) text
