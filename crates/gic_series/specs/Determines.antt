-- That the text of the mode determines what it shows.
use Rattle.std.specs.Prelude.{◌≡◌, ℕ, ◌<◌, ◌^◌, List, length, All}
use Rattle.gic_case.specs.Lists.{Lists}
use Rattle.gic_case.specs.Sound.{IsSound}
use Rattle.gic_report.specs.Fits.{AreInRange}
use Rattle.gic_series.specs.Rows.{SeriesRowView}
use Rattle.gic_series.specs.RightSeries.{series_text}

-- the number and the time of the row are numbers of 32 bits, and each of its ends is one of 128 bits
pub record IsRowInRange (row : SeriesRowView) : Type 0 where
  pub number_fits : row.number < 2 ^ 32
  pub time_fits : row.time < 2 ^ 32
  pub effective_fits : AreInRange row.effective

-- a width, a transformer and rows that can be shown of a case: numbers of their types, and the place of a transformer of the case
pub record AreShownOf (case : Lists) (width transformer : ℕ) (rows : List SeriesRowView) : Type 0 where
  pub width_fits : width < 2 ^ 32
  pub within : transformer < length case.transformers
  pub count_fits : length rows < 2 ^ 32
  pub rows_fit : All IsRowInRange rows

-- all that is printed is equal, and the transformer is the same
pub record ShowsSame (width transformer : ℕ) (rows : List SeriesRowView) (width' transformer' : ℕ) (rows' : List SeriesRowView) : Type 0 where
  pub same_width : width ≡ width'
  pub same_transformer : transformer ≡ transformer'
  pub same_rows : rows ≡ rows'

-- equal texts on one case show the same
abbrev pub TextDeterminesSeries : Type 0
TextDeterminesSeries = (case : Lists) → IsSound case → (width transformer : ℕ) (rows : List SeriesRowView) (width' transformer' : ℕ) (rows' : List SeriesRowView) →
    AreShownOf case width transformer rows → AreShownOf case width' transformer' rows' →
    series_text case width transformer rows ≡ series_text case width' transformer' rows' →
    ShowsSame width transformer rows width' transformer' rows'
