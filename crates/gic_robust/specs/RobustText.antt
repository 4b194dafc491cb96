-- The report of the mode.
use Rattle.std.specs.Prelude.{ℕ, ℤ, List, [], ◌∷◌, ◌++◌, codes, decimal}
use Rattle.gic_case.specs.declared.item.Transformer.{Transformer}
use Rattle.gic_report.specs.SharedLines.{Words, word_line}
use Rattle.gic_worst.specs.Rows.{ScreenRowView}
use Rattle.gic_worst.specs.ScreenLines.{screened_transformer_lines}
use Rattle.gic_worst.specs.Setting.{event_setting_line}

-- the width in mA, the threshold in mA per phase, the strength of the field in mV/km, and the tolerance of grounds in per cent
abbrev pub robust_setting_line : (width threshold : ℕ) → (field : ℤ) → (tolerance : ℕ) → Words
robust_setting_line width threshold field tolerance = event_setting_line width threshold field ++ codes "tolerance" ∷ decimal tolerance ∷ []

-- the lines of the report
abbrev pub robust_report : List Transformer → (width threshold : ℕ) → (field : ℤ) → (tolerance : ℕ) → List ScreenRowView → List Words
robust_report transformers width threshold field tolerance rows =
    word_line (codes "robust") ∷ robust_setting_line width threshold field tolerance ∷ (screened_transformer_lines threshold transformers rows ++ word_line (codes "end") ∷ [])
