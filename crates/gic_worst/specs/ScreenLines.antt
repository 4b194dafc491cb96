-- The lines of transformers in reports on the worst orientation of an event's field, and the rows that they can show.
use Rattle.std.specs.Prelude.{ℕ, List, [], ◌∷◌, codes}
use Rattle.std.specs.Fmt.{signed_decimal}
use Rattle.gic_case.specs.declared.item.Transformer.{Transformer}
use Rattle.gic_criteria.specs.declared.criterion.Verdict.{Verdict}
use Rattle.gic_report.specs.Fits.{AreInRange}
use Rattle.gic_report.specs.SharedLines.{Words}
use Rattle.gic_report.specs.VerdictText.{verdict_in, verdict_word}
use Rattle.gic_worst.specs.Rows.{ScreenRowView}

-- the line of a row: the transformer's name, the three intervals, and the verdict
unfoldable pub screened_line : (name : List ℕ) → ScreenRowView → Verdict → Words
screened_line name row said =
    codes "transformer" ∷ name
    ∷ codes "north" ∷ signed_decimal row.north.low ∷ signed_decimal row.north.high
    ∷ codes "east" ∷ signed_decimal row.east.low ∷ signed_decimal row.east.high
    ∷ codes "worst" ∷ signed_decimal row.worst.low ∷ signed_decimal row.worst.high
    ∷ verdict_word said ∷ []

-- the line of a transformer, by its row
abbrev pub screened_transformer_line : (threshold : ℕ) → Transformer → ScreenRowView → Words
screened_transformer_line threshold t row = screened_line t.name row (verdict_in threshold t row.worst)

-- per transformer
abbrev pub screened_transformer_lines : (threshold : ℕ) → List Transformer → List ScreenRowView → List Words
screened_transformer_lines threshold [] rows = []
screened_transformer_lines threshold (t ∷ ts) [] = []
screened_transformer_lines threshold (t ∷ ts) (row ∷ rows) = screened_transformer_line threshold t row ∷ screened_transformer_lines threshold ts rows

-- each end of the row is a number of 128 bits
pub record IsRowInRange (row : ScreenRowView) : Type 0 where
  pub north_fits : AreInRange row.north
  pub east_fits : AreInRange row.east
  pub worst_fits : AreInRange row.worst
