-- The report of the currents of transformers for the worst orientation of an event's field.
use Rattle.std.specs.Prelude.{ℕ, ℤ, List, [], ◌∷◌, ◌++◌, codes}
use Rattle.gic_case.specs.declared.item.Transformer.{Transformer}
use Rattle.gic_report.specs.SharedLines.{Words, word_line}
use Rattle.gic_worst.specs.Rows.{ScreenRowView}
use Rattle.gic_worst.specs.ScreenLines.{screened_transformer_lines}
use Rattle.gic_worst.specs.Setting.{event_setting_line}

-- the lines of the report
abbrev pub screen_report : List Transformer → (width threshold : ℕ) → (field : ℤ) → List ScreenRowView → List Words
screen_report transformers width threshold field rows =
    word_line (codes "screen") ∷ event_setting_line width threshold field ∷ (screened_transformer_lines threshold transformers rows ++ word_line (codes "end") ∷ [])
