-- One pass over the records answers the first refusal of all rules.
use Rattle.std.proofs.Common.{◌≡◌, ℕ, ◌==◌, ◌<◌, nat_le, pos, List, [], ◌∷◌, ◌++◌, length, take, map, false, Option, Some, None, is_some, Ok, Err, refl, ap, ◌∙◌, arith, inl, inr}
use Rattle.std.proofs.lemmas.Bool.{cases_Bool}
use Rattle.std.proofs.lemmas.Bool.Decides.{nat_tests}
use Rattle.gic_base.specs.Refusals.{unless, settle}
use Rattle.gic_base.specs.Passes.{◌>>=◌, or_refuse}
use Rattle.gic_base.proofs.RefusalLaws.{then_law, last_law, value_law, test_law}
use Rattle.gic_records.specs.Columns.{time_in, time_of}
use Rattle.gic_records.specs.Records.{records_of}
use Rattle.gic_records.specs.Rows.{breaks_records}
use Rattle.gic_records.specs.Wide.{up_to_wide}
use Rattle.gic_records.proofs.RowLaws.{rows_law as all_rows_law}
use Rattle.gic_records.proofs.WideRows.{then_same, narrow_first, wide_first, is_wide, cut_is_wide, wide_rows_law}
use Rattle.gic_base.specs.declared.limits.TheConstants.{MOST_ROWS}
use Rattle.gic_storm.specs.declared.row.StormRow.{StormRow}
use Rattle.gic_storm.specs.Columns.{storm_form_of, width_of, north_place, east_place, field_in, zone_in, follows}
use Rattle.gic_storm.specs.Pass.{row_in, storm_rows, some_rows, storm_from}
use Rattle.gic_storm.specs.Rules.{breaks_storm_record, breaks_empty, broken_after, storm_refusals, row_of, rows_after, storm_with, storm_in, storm_of}
use Rattle.gic_storm.specs.declared.form.StormForm.{StormForm}
use Rattle.gic_storm.specs.declared.form.StormForm.TheVariants.{Uniform, Zoned}
use Rattle.gic_storm.specs.declared.refusal.StormField.TheVariants as fields
use Rattle.gic_storm.specs.declared.refusal.StormRefusal.{StormRefusal}
use Rattle.gic_storm.specs.declared.refusal.StormRefusal.TheVariants as refusals

-- the rules of a record but that of the number of rows
abbrev breaks_columns : StormForm → List (List ℕ) → ℕ → Option ℕ → List (List ℕ) → List StormRefusal
breaks_columns form zones row before columns =
    unless (length columns == width_of form) (refusals.Shape row)
    ++ (unless (is_some (time_in columns)) (refusals.Number row fields.Time)
    ++ (unless (is_some (field_in columns (north_place form))) (refusals.Number row fields.North)
    ++ (unless (is_some (field_in columns (east_place form))) (refusals.Number row fields.East)
    ++ (unless (is_some (zone_in form zones columns)) (refusals.Zone row)
    ++ unless (follows form before (time_of columns)) (refusals.Order row)))))

-- one record
row_law : (form : StormForm) (zones : List (List ℕ)) (row : ℕ) (before : Option ℕ) (columns : List (List ℕ))
    → row_in form zones row before columns ≡ settle (breaks_columns form zones row before columns) (row_of form zones columns)
unfolding row_in row_of
row_law form zones row before columns =
    then_law _ _ _ _ _ _ (test_law (length columns == width_of form) (refusals.Shape row))
    (then_law _ _ _ _ _ _ (value_law (time_in columns) (refusals.Number row fields.Time) 0)
    (then_law _ _ _ _ _ _ (value_law (field_in columns (north_place form)) (refusals.Number row fields.North) (pos 0))
    (then_law _ _ _ _ _ _ (value_law (field_in columns (east_place form)) (refusals.Number row fields.East) (pos 0))
    (then_law _ _ _ _ _ _ (value_law (zone_in form zones columns) (refusals.Zone row) None)
    (last_law _ _ _ _ (test_law (follows form before (time_of columns)) (refusals.Order row)))))))

time_row : (form : StormForm) (zones columns : List (List ℕ)) → (row_of form zones columns).time ≡ time_of columns
unfolding row_of
time_row form zones columns = refl

-- the records after the first
pub rows_law : (form : StormForm) (zones : List (List ℕ)) (records : List (List (List ℕ)))
    → storm_rows form zones records ≡ settle (breaks_records (breaks_storm_record form zones) 1 None records) (map (row_of form zones) records)
unfolding breaks_storm_record
rows_law form zones records =
    all_rows_law (row_in form zones) (λ (r : StormRow). r.time) MOST_ROWS refusals.TooMany (breaks_columns form zones) (row_of form zones) (row_law form zones) (time_row form zones) 1 None records

some_law : (form : StormForm) (zones : List (List ℕ)) (records : List (List (List ℕ))) → some_rows (map (row_of form zones) records) ≡ settle (breaks_empty records) (map (row_of form zones) records)
some_law form zones [] = refl
some_law form zones (columns ∷ records) = refl

form_law : (o : Option StormForm) (zones : List (List ℕ)) (records : List (List (List ℕ)))
    → (or_refuse o (refusals.Shape 0) >>= (λ form. storm_rows form zones records >>= (λ xs. some_rows xs >>= (λ ys. Ok (storm_with zones ys)))))
    ≡ settle (broken_after o zones records) (storm_with zones (rows_after o zones records))
form_law None zones records = refl
form_law (Some form) zones records =
    then_law _ _ _ _ _ _ (rows_law form zones records)
    (last_law _ _ _ (storm_with zones) (some_law form zones records))

-- all records
storm_law : (zones : List (List ℕ)) (records : List (List (List ℕ))) → storm_from zones records ≡ settle (storm_refusals zones records) (storm_in zones records)
unfolding storm_from
storm_law zones [] = refl
storm_law zones (first ∷ records) = form_law (storm_form_of first) zones records

-- a record that is too wide for a row is refused by its shape
row_wide : (form : StormForm) (zones : List (List ℕ)) (row : ℕ) (before : Option ℕ) (columns : List (List ℕ)) → 4 < length columns → row_in form zones row before columns ≡ Err (refusals.Shape row)
unfolding row_in
row_wide Uniform zones row before columns wide = let other : (length columns == 3) ≡ false = grind (arith, nat_tests, wide) in rw other refl
row_wide Zoned zones row before columns wide = let other : (length columns == 4) ≡ false = grind (arith, nat_tests, wide) in rw other refl

-- and tells no form as the first
form_wide : (columns : List (List ℕ)) → 4 < length columns → storm_form_of columns ≡ None
unfolding storm_form_of
form_wide columns wide =
    let three : (length columns == 3) ≡ false = grind (arith, nat_tests, wide) in
    let four : (length columns == 4) ≡ false = grind (arith, nat_tests, wide) in
    rw (three, four) refl

-- the records up to the first that is too wide are the same storm as all, or break the same rule first
storm_wide : (zones : List (List ℕ)) (records : List (List (List ℕ))) → storm_from zones (up_to_wide records) ≡ storm_from zones records
unfolding storm_from
storm_wide zones [] = refl
storm_wide zones (first ∷ records) = elim (cases_Bool (nat_le (length first) 4)) [
  | inl narrow ↦
      rw (narrow_first first records narrow)
      (then_same (or_refuse (storm_form_of first) (refusals.Shape 0)) _ _ (λ form.
      ap (λ rows. rows >>= (λ xs. some_rows xs >>= (λ ys. Ok (storm_with zones ys))))
      (wide_rows_law (row_in form zones) (λ (r : StormRow). r.time) MOST_ROWS refusals.TooMany refusals.Shape (row_wide form zones) 1 None records)))
  | inr wide ↦
      let many = is_wide first wide in
      rw (wide_first first records wide, form_wide first many, form_wide (take 5 first) (cut_is_wide first many)) refl
]

-- the storm of bytes
pub storm_of_law : (zones : List (List ℕ)) (bytes : List ℕ) → storm_from zones (up_to_wide (records_of bytes)) ≡ storm_of zones bytes
unfolding storm_of
storm_of_law zones bytes = storm_wide zones (records_of bytes) ∙ storm_law zones (records_of bytes)
