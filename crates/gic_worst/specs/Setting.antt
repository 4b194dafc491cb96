-- The line of what is asked of a screen.
use Rattle.std.specs.Prelude.{ℕ, ℤ, [], ◌∷◌, codes, decimal}
use Rattle.std.specs.Fmt.{signed_decimal}
use Rattle.gic_report.specs.SharedLines.{Words}

-- the width in mA, the threshold in mA per phase, and the strength of the field in mV/km
abbrev pub event_setting_line : (width threshold : ℕ) → (field : ℤ) → Words
event_setting_line width threshold field =
    codes "width" ∷ decimal width ∷ codes "threshold" ∷ decimal threshold ∷ codes "field" ∷ signed_decimal field ∷ []
