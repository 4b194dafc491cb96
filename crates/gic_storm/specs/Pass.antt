-- What one pass over the records reads, up to the first fault. Private functions are proved to read this; the contract of the reader speaks of the rules.
use Rattle.std.specs.Prelude.{ℕ, ◌==◌, List, [], ◌∷◌, length, Option, None, Result, Ok, Err}
use Rattle.gic_base.specs.declared.limits.TheConstants.{MOST_ROWS}
use Rattle.gic_base.specs.Passes.{◌>>=◌, or_refuse, test}
use Rattle.gic_records.specs.Columns.{time_in}
use Rattle.gic_records.specs.RowPass.{rows_in}
use Rattle.gic_storm.specs.Columns.{storm_form_of, width_of, north_place, east_place, field_in, zone_in, follows}
use Rattle.gic_storm.specs.Rules.{storm_with}
use Rattle.gic_storm.specs.StormView.{StormView}
use Rattle.gic_storm.specs.declared.form.StormForm.{StormForm}
use Rattle.gic_storm.specs.declared.refusal.StormField.TheVariants as fields
use Rattle.gic_storm.specs.declared.refusal.StormRefusal.{StormRefusal}
use Rattle.gic_storm.specs.declared.refusal.StormRefusal.TheVariants as refusals
use Rattle.gic_storm.specs.declared.row.StormRow.{StormRow}

-- the row that a record is, at a row that is not too late
unfoldable pub row_in : StormForm → (zones : List (List ℕ)) → (row : ℕ) → (before : Option ℕ) → (columns : List (List ℕ)) → Result StormRow StormRefusal
row_in form zones row before columns = do
  shape ← test (length columns == width_of form) (refusals.Shape row)
  time ← or_refuse (time_in columns) (refusals.Number row fields.Time)
  north ← or_refuse (field_in columns (north_place form)) (refusals.Number row fields.North)
  east ← or_refuse (field_in columns (east_place form)) (refusals.Number row fields.East)
  zone ← or_refuse (zone_in form zones columns) (refusals.Zone row)
  order ← test (follows form before time) (refusals.Order row)
  Ok (record { time = time; zone = zone; north = north; east = east })

-- the rows of the records after the first
abbrev pub storm_rows : StormForm → (zones : List (List ℕ)) → List (List (List ℕ)) → Result (List StormRow) StormRefusal
storm_rows form zones = rows_in (row_in form zones) (λ r. r.time) MOST_ROWS refusals.TooMany 1 None

-- the rows, of which there is one at least
abbrev pub some_rows : List StormRow → Result (List StormRow) StormRefusal
some_rows [] = Err refusals.Empty
some_rows (x ∷ xs) = Ok (x ∷ xs)

-- the storm that the records are, or the first broken rule
unfoldable pub storm_from : (zones : List (List ℕ)) → List (List (List ℕ)) → Result StormView StormRefusal
storm_from zones [] = Err (refusals.Shape 0)
storm_from zones (first ∷ records) = do
  form ← or_refuse (storm_form_of first) (refusals.Shape 0)
  xs ← storm_rows form zones records
  ys ← some_rows xs
  Ok (storm_with zones ys)
