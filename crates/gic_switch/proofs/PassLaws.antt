-- One pass over the records answers the first refusal of all rules.
use Rattle.std.proofs.Common.{◌≡◌, ℕ, ◌==◌, ◌<◌, nat_le, List, [], ◌∷◌, ◌++◌, length, take, map, false, Option, None, is_some, Err, refl, ◌∙◌, arith, inl, inr}
use Rattle.std.proofs.lemmas.Bool.{cases_Bool}
use Rattle.std.proofs.lemmas.Bool.Decides.{nat_tests}
use Rattle.gic_base.specs.Passes.{test}
use Rattle.gic_base.specs.Refusals.{unless, settle}
use Rattle.gic_base.proofs.RefusalLaws.{then_law, last_law, value_law, test_law}
use Rattle.gic_records.specs.Columns.{text_at, time_in, time_of}
use Rattle.gic_records.specs.Records.{records_of}
use Rattle.gic_records.specs.Rows.{breaks_records}
use Rattle.gic_records.specs.Wide.{up_to_wide}
use Rattle.gic_records.proofs.RowLaws.{rows_law as all_rows_law}
use Rattle.gic_records.proofs.WideRows.{then_same, narrow_first, wide_first, is_wide, cut_is_wide, wide_rows_law}
use Rattle.gic_base.specs.declared.limits.TheConstants.{MOST_SWITCHINGS}
use Rattle.gic_model.specs.declared.parts.Switching.{Switching}
use Rattle.gic_case.specs.Lists.{Lists}
use Rattle.gic_model.specs.declared.parts.Item.TheVariants as items
use Rattle.gic_switch.specs.Columns.{is_head, action_in, switching_follows}
use Rattle.gic_switch.specs.Items.{item_in}
use Rattle.gic_switch.specs.Pass.{row_in, switching_rows, switchings_from}
use Rattle.gic_switch.specs.Rules.{action_or_open, breaks_switching_record, switching_refusals, switching_of, list_of, switchings_of}
use Rattle.gic_switch.specs.declared.action.Action.TheVariants.{Open}
use Rattle.gic_switch.specs.declared.refusal.SwitchRefusal.{SwitchRefusal}
use Rattle.gic_switch.specs.declared.refusal.SwitchRefusal.TheVariants as refusals

-- the rules of a record but that of the number of rows
abbrev breaks_columns : Lists → ℕ → Option ℕ → List (List ℕ) → List SwitchRefusal
breaks_columns case row before columns =
    unless (length columns == 3) (refusals.Shape row)
    ++ (unless (is_some (time_in columns)) (refusals.Number row)
    ++ (unless (switching_follows before (time_of columns)) (refusals.Order row)
    ++ (unless (is_some (action_in columns)) (refusals.Action row)
    ++ unless (is_some (item_in case (action_or_open columns) (text_at columns 1))) (refusals.Item row))))

-- one record
row_law : (case : Lists) (row : ℕ) (before : Option ℕ) (columns : List (List ℕ))
    → row_in case row before columns ≡ settle (breaks_columns case row before columns) (switching_of case columns)
unfolding row_in switching_of
row_law case row before columns =
    then_law _ _ _ _ _ _ (test_law (length columns == 3) (refusals.Shape row))
    (then_law _ _ _ _ _ _ (value_law (time_in columns) (refusals.Number row) 0)
    (then_law _ _ _ _ _ _ (test_law (switching_follows before (time_of columns)) (refusals.Order row))
    (then_law _ _ _ _ _ _ (value_law (action_in columns) (refusals.Action row) Open)
    (last_law _ _ _ _ (value_law (item_in case (action_or_open columns) (text_at columns 1)) (refusals.Item row) (items.Line 0))))))

time_row : (case : Lists) (columns : List (List ℕ)) → (switching_of case columns).time ≡ time_of columns
unfolding switching_of
time_row case columns = refl

-- the records after the first
rows_law : (case : Lists) (records : List (List (List ℕ)))
    → switching_rows case records ≡ settle (breaks_records (breaks_switching_record case) 1 None records) (map (switching_of case) records)
unfolding breaks_switching_record
rows_law case records =
    all_rows_law (row_in case) (λ (s : Switching). s.time) MOST_SWITCHINGS refusals.TooMany (breaks_columns case) (switching_of case) (row_law case) (time_row case) 1 None records

-- all records
switchings_law : (case : Lists) (records : List (List (List ℕ))) → switchings_from case records ≡ settle (switching_refusals case records) (list_of case records)
unfolding switchings_from
switchings_law case [] = refl
switchings_law case (first ∷ records) = then_law _ _ _ _ _ _ (test_law (is_head first) (refusals.Shape 0)) (rows_law case records)

-- a record that is too wide for a row is refused by its shape
row_wide : (case : Lists) (row : ℕ) (before : Option ℕ) (columns : List (List ℕ)) → 4 < length columns → row_in case row before columns ≡ Err (refusals.Shape row)
unfolding row_in
row_wide case row before columns wide = let other : (length columns == 3) ≡ false = grind (arith, nat_tests, wide) in rw other refl

-- and isn't the one that comes first
head_wide : (columns : List (List ℕ)) → 4 < length columns → is_head columns ≡ false
head_wide columns wide = let other : (length columns == 3) ≡ false = grind (arith, nat_tests, wide) in rw other refl

-- the records up to the first that is too wide are the same switchings as all, or break the same rule first
switchings_wide : (case : Lists) (records : List (List (List ℕ))) → switchings_from case (up_to_wide records) ≡ switchings_from case records
unfolding switchings_from
switchings_wide case [] = refl
switchings_wide case (first ∷ records) = elim (cases_Bool (nat_le (length first) 4)) [
  | inl narrow ↦
      rw (narrow_first first records narrow)
      (then_same (test (is_head first) (refusals.Shape 0)) _ _ (λ head.
      wide_rows_law (row_in case) (λ (s : Switching). s.time) MOST_SWITCHINGS refusals.TooMany refusals.Shape (row_wide case) 1 None records))
  | inr wide ↦
      let many = is_wide first wide in
      rw (wide_first first records wide, head_wide first many, head_wide (take 5 first) (cut_is_wide first many)) refl
]

-- the switchings of bytes
pub switchings_of_law : (case : Lists) (bytes : List ℕ) → switchings_from case (up_to_wide (records_of bytes)) ≡ switchings_of case bytes
unfolding switchings_of
switchings_of_law case bytes = switchings_wide case (records_of bytes) ∙ switchings_law case (records_of bytes)
