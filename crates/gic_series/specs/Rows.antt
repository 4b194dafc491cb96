-- What the mode shows of a step, with its interval as its two ends.
use Rattle.std.specs.Prelude.{ℕ, List, slice_index_or}
use Rattle.gic_fixed.specs.Ends.{Ends, ends_of, zero_ends}
use Rattle.gic_series.specs.declared.rows.SeriesRow.{SeriesRow}

-- the step's number and its time in seconds, and the transformer's signed effective current in mA per phase
pub record SeriesRowView : Type 0 where
  pub number : ℕ
  pub time : ℕ
  pub effective : Ends

abbrev pub series_row_of : SeriesRow → SeriesRowView
series_row_of row = record { number = row.number; time = row.time; effective = ends_of row.effective }

-- number and time 0, and an interval that holds 0 alone
abbrev pub no_series_row : SeriesRowView
no_series_row = record { number = 0; time = 0; effective = zero_ends }

-- the row at this place; past the last one that of number and time 0
abbrev pub series_row_at : List SeriesRowView → ℕ → SeriesRowView
series_row_at rows place = slice_index_or rows place no_series_row
