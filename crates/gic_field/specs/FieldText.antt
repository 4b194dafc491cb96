-- The report of a network's potentials and currents in one uniform field.
use Rattle.std.specs.Prelude.{ℕ, ℤ, List, [], ◌∷◌, ◌++◌, codes, decimal}
use Rattle.std.specs.Fmt.{signed_decimal}
use Rattle.gic_view.specs.View.{View}
use Rattle.gic_case.specs.Lists.{Lists}
use Rattle.gic_report.specs.SharedLines.{Words, word_line}
use Rattle.gic_report.specs.ItemText.{signed_lines}
use Rattle.gic_report.specs.VerdictText.{transformer_lines}

-- the line of what is asked: the field's parts in mV/km, the width in mV and mA, and the threshold in mA per phase
abbrev pub field_setting_line : (north east : ℤ) → (width threshold : ℕ) → Words
field_setting_line north east width threshold =
    codes "north" ∷ signed_decimal north ∷ codes "east" ∷ signed_decimal east ∷ codes "width" ∷ decimal width ∷ codes "threshold" ∷ decimal threshold ∷ []

-- the lines of the report of the view in a uniform field
abbrev pub field_report : Lists → (north east : ℤ) → (width threshold : ℕ) → View → List Words
field_report case north east width threshold view =
    word_line (codes "field") ∷ field_setting_line north east width threshold ∷
    ((signed_lines case view ++ transformer_lines threshold case.transformers view.effective) ++ word_line (codes "end") ∷ [])
