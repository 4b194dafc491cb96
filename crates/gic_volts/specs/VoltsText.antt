-- The report of the voltages along the lines.
use Rattle.std.specs.Prelude.{ℤ, List, ℕ, [], ◌∷◌, ◌++◌, codes}
use Rattle.std.specs.Fmt.{signed_decimal}
use Rattle.gic_case.specs.declared.item.Line.{Line}
use Rattle.gic_report.specs.SharedLines.{Words, word_line, field_line}

-- the line of a line's voltage
abbrev pub volts_line : List ℕ → ℤ → Words
volts_line name nanovolts = codes "line" ∷ name ∷ signed_decimal nanovolts ∷ []

-- per line of the case, in order, blocked ones too
abbrev pub volts_lines : List Line → List ℤ → List Words
volts_lines [] nanovolts = []
volts_lines (line ∷ lines) [] = []
volts_lines (line ∷ lines) (number ∷ numbers) = volts_line line.name number ∷ volts_lines lines numbers

-- the lines of the report of the voltages
abbrev pub volts_report : List Line → ℤ → ℤ → List ℤ → List Words
volts_report lines north east nanovolts =
    word_line (codes "volts") ∷ field_line north east ∷ (volts_lines lines nanovolts ++ word_line (codes "end") ∷ [])
