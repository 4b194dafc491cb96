-- The text of the report determines what it shows.
use Rattle.std.proofs.Common.{◌≡◌, ℕ, List, [], ◌∷◌, ◌++◌, drop, refl, ap}
use Rattle.std.specs.Prelude.{codes}
use Rattle.std.proofs.lemmas.List.Elements.{recursion_from_All}
use Rattle.gic_text.proofs.Injective.{lines_injective}
use Rattle.gic_text.proofs.Words.{word_from_test}
use Rattle.gic_report.specs.SharedLines.{word_line}
use Rattle.gic_report.proofs.CaseNames.{transformer_names}
use Rattle.gic_report.proofs.WordsDetermined.{first_of_lines}
use Rattle.gic_worst.specs.ScreenLines.{screened_transformer_lines, IsRowInRange}
use Rattle.gic_worst.specs.Setting.{event_setting_line}
use Rattle.gic_worst.proofs.RowsDetermined.{are_lines, same_lines}
use Rattle.gic_worst.proofs.SettingDetermined.{same_setting, setting_is_line}
use Rattle.gic_screen_mode.specs.ScreenText.{screen_report}
use Rattle.gic_screen_mode.specs.Determines.{TextDeterminesScreen}

-- the text of the report determines all that it shows
pub report_determined : TextDeterminesScreen
report_determined case named width threshold field rows width' threshold' field' rows' p q e =
    let ts = case.transformers in
    let fit = recursion_from_All IsRowInRange rows p.rows_fit in
    let fit' = recursion_from_All IsRowInRange rows' q.rows_fit in
    let names = transformer_names case named in
    let words = lines_injective (screen_report ts width threshold field rows) (screen_report ts width' threshold' field' rows')
    ((word_from_test (codes "screen") refl, tt), (setting_is_line width threshold field p.width_fits p.threshold_fits p.field_fits, are_lines threshold ts rows names fit))
    ((word_from_test (codes "screen") refl, tt), (setting_is_line width' threshold' field' q.width_fits q.threshold_fits q.field_fits, are_lines threshold' ts rows' names fit')) e in
    let setting : event_setting_line width threshold field ≡ event_setting_line width' threshold' field' = ap (λ ls. first_of_lines ls) (ap (drop 1) words) in
    let asked = same_setting width threshold field width' threshold' field' p.width_fits p.threshold_fits p.field_fits q.width_fits q.threshold_fits q.field_fits setting in
    let later : screened_transformer_lines threshold ts rows ++ word_line (codes "end") ∷ [] ≡ screened_transformer_lines threshold' ts rows' ++ word_line (codes "end") ∷ [] = ap (drop 2) words in
    record {
      same_width = asked.same_width;
      same_threshold = asked.same_threshold;
      same_field = asked.same_field;
      same_rows = same_lines threshold threshold' ts rows rows' p.count q.count fit fit' later;
    }
