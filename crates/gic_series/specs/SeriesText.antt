-- The report of one transformer's effective current at each step of a storm.
use Rattle.std.specs.Prelude.{ℕ, List, [], ◌∷◌, ◌++◌, length, map, codes, decimal}
use Rattle.gic_report.specs.SharedLines.{Words, word_line}
use Rattle.gic_report.specs.ItemText.{ends_words}
use Rattle.gic_series.specs.Rows.{SeriesRowView}

-- the line of what is asked: the width in mA, the transformer's name, and how many steps the storm has
abbrev pub series_setting_line : (width : ℕ) → (name : List ℕ) → (steps : ℕ) → Words
series_setting_line width name steps = codes "width" ∷ decimal width ∷ codes "transformer" ∷ name ∷ codes "steps" ∷ decimal steps ∷ []

-- the line of a step, with its time in seconds and the interval
abbrev pub series_step_line : SeriesRowView → Words
series_step_line row = codes "step" ∷ decimal row.number ∷ codes "time" ∷ decimal row.time ∷ ends_words row.effective

-- the lines of the report, with one for each step
abbrev pub series_report : (width : ℕ) → (name : List ℕ) → List SeriesRowView → List Words
series_report width name rows =
    word_line (codes "series") ∷ series_setting_line width name (length rows) ∷ (map series_step_line rows ++ word_line (codes "end") ∷ [])
