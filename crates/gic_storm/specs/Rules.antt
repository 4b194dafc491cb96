-- The rules of a storm, each read by itself on the list of records: the refusals for all places where the records break it, in order. A storm is accepted where no rule gives one, and the first of all answers otherwise.
use Rattle.std.specs.Prelude.{ℕ, pos, nat_le, ◌==◌, List, [], ◌∷◌, ◌++◌, length, map, Bool, true, false, not, Option, Some, None, unwrap_or, is_some, Result}
use Rattle.gic_base.specs.declared.limits.TheConstants.{MOST_ROWS}
use Rattle.gic_base.specs.Refusals.{unless, settle}
use Rattle.gic_records.specs.Columns.{time_in, time_of}
use Rattle.gic_records.specs.Records.{records_of}
use Rattle.gic_records.specs.Rows.{breaks_records}
use Rattle.gic_storm.specs.Columns.{storm_form_of, width_of, north_place, east_place, field_in, zone_in, follows}
use Rattle.gic_storm.specs.StormView.{StormView}
use Rattle.gic_storm.specs.declared.form.StormForm.{StormForm}
use Rattle.gic_storm.specs.declared.refusal.StormField.TheVariants as fields
use Rattle.gic_storm.specs.declared.refusal.StormRefusal.{StormRefusal}
use Rattle.gic_storm.specs.declared.refusal.StormRefusal.TheVariants as refusals
use Rattle.gic_storm.specs.declared.row.StormRow.{StormRow}

-- the rules of one record, over a case with zones of these names, after a record of the time before
unfoldable pub breaks_storm_record : StormForm → (zones : List (List ℕ)) → (row : ℕ) → (before : Option ℕ) → (columns : List (List ℕ)) → List StormRefusal
breaks_storm_record form zones row before columns =
    unless (nat_le row MOST_ROWS) refusals.TooMany
    ++ (unless (length columns == width_of form) (refusals.Shape row)
    ++ (unless (is_some (time_in columns)) (refusals.Number row fields.Time)
    ++ (unless (is_some (field_in columns (north_place form))) (refusals.Number row fields.North)
    ++ (unless (is_some (field_in columns (east_place form))) (refusals.Number row fields.East)
    ++ (unless (is_some (zone_in form zones columns)) (refusals.Zone row)
    ++ unless (follows form before (time_of columns)) (refusals.Order row))))))

-- there is none
abbrev pub is_empty : {A : Type 0} → List A → Bool
is_empty [] = true
is_empty (x ∷ xs) = false

-- a record follows the first
abbrev pub breaks_empty : List (List (List ℕ)) → List StormRefusal
breaks_empty records = unless (not (is_empty records)) refusals.Empty

-- all rules on the records after the first, which told the form, or none
abbrev pub broken_after : Option StormForm → (zones : List (List ℕ)) → List (List (List ℕ)) → List StormRefusal
broken_after None zones records = refusals.Shape 0 ∷ []
broken_after (Some form) zones records = breaks_records (breaks_storm_record form zones) 1 None records ++ breaks_empty records

-- all rules on the records, in their order
abbrev pub storm_refusals : (zones : List (List ℕ)) → List (List (List ℕ)) → List StormRefusal
storm_refusals zones [] = refusals.Shape 0 ∷ []
storm_refusals zones (first ∷ records) = broken_after (storm_form_of first) zones records

-- the row that a record is, each field that breaks its rule taken as zero
unfoldable pub row_of : StormForm → (zones : List (List ℕ)) → List (List ℕ) → StormRow
row_of form zones columns = record {
  time = time_of columns;
  zone = unwrap_or (zone_in form zones columns) None;
  north = unwrap_or (field_in columns (north_place form)) (pos 0);
  east = unwrap_or (field_in columns (east_place form)) (pos 0);
}

-- the rows that the records after the first are
abbrev pub rows_after : Option StormForm → (zones : List (List ℕ)) → List (List (List ℕ)) → List StormRow
rows_after None zones records = []
rows_after (Some form) zones records = map (row_of form zones) records

-- this many zones, and these rows
abbrev pub storm_with : (zones : List (List ℕ)) → List StormRow → StormView
storm_with zones rows = record { zones = length zones; rows = rows }

-- the storm that the records are
abbrev pub storm_in : (zones : List (List ℕ)) → List (List (List ℕ)) → StormView
storm_in zones [] = storm_with zones []
storm_in zones (first ∷ records) = storm_with zones (rows_after (storm_form_of first) zones records)

-- the storm that the bytes are, or the first rule that they break
unfoldable pub storm_of : (zones : List (List ℕ)) → List ℕ → Result StormView StormRefusal
storm_of zones bytes = settle (storm_refusals zones (records_of bytes)) (storm_in zones (records_of bytes))
