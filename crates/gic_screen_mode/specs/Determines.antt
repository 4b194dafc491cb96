-- That the text of the mode determines what it shows.
use Rattle.std.specs.Prelude.{◌≡◌, ℕ, ◌<◌, ◌^◌, ℤ, List, length, All, FitsSigned}
use mir.Syntax.{w32}
use Rattle.gic_case.specs.Lists.{Lists}
use Rattle.gic_text.specs.Lines.{lines_text}
use Rattle.gic_report.specs.Fits.{HasNames}
use Rattle.gic_worst.specs.Rows.{ScreenRowView}
use Rattle.gic_worst.specs.ScreenLines.{IsRowInRange}
use Rattle.gic_screen_mode.specs.ScreenText.{screen_report}

-- a width, a threshold, a field and rows that can be shown of a case: numbers of their types, and one row a transformer
pub record AreShownOf (case : Lists) (width threshold : ℕ) (field : ℤ) (rows : List ScreenRowView) : Type 0 where
  pub count : length rows ≡ length case.transformers
  pub width_fits : width < 2 ^ 32
  pub threshold_fits : threshold < 2 ^ 32
  pub field_fits : FitsSigned w32 field
  pub rows_fit : All IsRowInRange rows

-- all that is printed is equal
pub record ShowsSame (width threshold : ℕ) (field : ℤ) (rows : List ScreenRowView) (width' threshold' : ℕ) (field' : ℤ) (rows' : List ScreenRowView) : Type 0 where
  pub same_width : width ≡ width'
  pub same_threshold : threshold ≡ threshold'
  pub same_field : field ≡ field'
  pub same_rows : rows ≡ rows'

-- equal texts on one case show the same
abbrev pub TextDeterminesScreen : Type 0
TextDeterminesScreen = (case : Lists) → HasNames case → (width threshold : ℕ) (field : ℤ) (rows : List ScreenRowView) (width' threshold' : ℕ) (field' : ℤ) (rows' : List ScreenRowView) →
    AreShownOf case width threshold field rows → AreShownOf case width' threshold' field' rows' →
    lines_text (screen_report case.transformers width threshold field rows) ≡ lines_text (screen_report case.transformers width' threshold' field' rows') →
    ShowsSame width threshold field rows width' threshold' field' rows'
