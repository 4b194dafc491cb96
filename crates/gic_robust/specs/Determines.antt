-- That the text of the mode determines what it shows.
use Rattle.std.specs.Prelude.{◌≡◌, ℕ, ◌<◌, ◌^◌, ℤ, List, length, All, FitsSigned}
use mir.Syntax.{w32}
use Rattle.gic_case.specs.Lists.{Lists}
use Rattle.gic_text.specs.Lines.{lines_text}
use Rattle.gic_report.specs.Fits.{HasNames}
use Rattle.gic_worst.specs.Rows.{ScreenRowView}
use Rattle.gic_worst.specs.ScreenLines.{IsRowInRange}
use Rattle.gic_robust.specs.RobustText.{robust_report}

-- what a report shows
pub record Shown : Type 0 where
  pub width : ℕ
  pub threshold : ℕ
  pub field : ℤ
  pub tolerance : ℕ
  pub rows : List ScreenRowView

-- it can be shown of a case: numbers of their types, and one row a transformer
pub record IsShownOf (case : Lists) (shown : Shown) : Type 0 where
  pub count : length shown.rows ≡ length case.transformers
  pub width_fits : shown.width < 2 ^ 32
  pub threshold_fits : shown.threshold < 2 ^ 32
  pub field_fits : FitsSigned w32 shown.field
  pub tolerance_fits : shown.tolerance < 2 ^ 32
  pub rows_fit : All IsRowInRange shown.rows

-- the text of it
abbrev pub shown_text : Lists → Shown → List ℕ
shown_text case shown = lines_text (robust_report case.transformers shown.width shown.threshold shown.field shown.tolerance shown.rows)

-- equal texts on one case show the same
abbrev pub TextDeterminesRobust : Type 0
TextDeterminesRobust = (case : Lists) → HasNames case → (one other : Shown) → IsShownOf case one → IsShownOf case other →
    shown_text case one ≡ shown_text case other → one ≡ other
