-- What a screen shows of a transformer, with each interval as its two ends.
use Rattle.std.specs.Prelude.{◌≡◌, ℕ, ◌*◌, ◌≤◌, List, slice_index_or, ℤ}
use Rattle.gic_fixed.specs.Encloses.{Encloses}
use Rattle.gic_fixed.specs.Ends.{Ends, ends_of, zero_ends, IsAtMostWide}
use Rattle.gic_criteria.specs.Worst.{EnclosesWorst, IsWorstOf}
use Rattle.gic_worst.specs.declared.rows.ScreenRow.{ScreenRow}

-- its signed effective currents to the north and to the east, and its absolute one for the worst orientation, in mA per phase
pub record ScreenRowView : Type 0 where
  pub north : Ends
  pub east : Ends
  pub worst : Ends

abbrev pub screen_row_of : ScreenRow → ScreenRowView
screen_row_of row = record { north = ends_of row.north; east = ends_of row.east; worst = ends_of row.worst }

-- each interval holds 0 alone
abbrev pub no_screen_row : ScreenRowView
no_screen_row = record { north = zero_ends; east = zero_ends; worst = zero_ends }

-- the row at this place; past the last one in which each interval holds 0 alone
abbrev pub screen_row_at : List ScreenRowView → ℕ → ScreenRowView
screen_row_at rows place = slice_index_or rows place no_screen_row

-- the row of two signed intervals: the third one is their worst interval; it encloses the worst current of whatever fractions the two enclose, and where neither is wider than a width from 2 on, it is at most twice that width
pub record IsRowOf (north_ends east_ends : Ends) (row : ScreenRowView) : Type 0 where
  pub north_is : row.north ≡ north_ends
  pub east_is : row.east ≡ east_ends
  pub worst_is : IsWorstOf north_ends east_ends row.worst
  pub holds : (n : ℤ) (d : ℕ) (m : ℤ) (e : ℕ) → Encloses north_ends.low north_ends.high n d → Encloses east_ends.low east_ends.high m e →
      EnclosesWorst row.worst.low row.worst.high n d m e
  pub narrow : (width : ℕ) → 2 ≤ width → IsAtMostWide width north_ends.low north_ends.high → IsAtMostWide width east_ends.low east_ends.high →
      IsAtMostWide (2 * width) row.worst.low row.worst.high
