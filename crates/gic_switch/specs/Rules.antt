-- The rules of a list of switchings, each read by itself on the list of records: the refusals for all places where the records break it, in order. The list is accepted where no rule gives one, and the first of all answers otherwise.
use Rattle.std.specs.Prelude.{ℕ, nat_le, ◌==◌, List, [], ◌∷◌, ◌++◌, length, map, Option, None, unwrap_or, is_some, Result}
use Rattle.gic_base.specs.declared.limits.TheConstants.{MOST_SWITCHINGS}
use Rattle.gic_base.specs.Refusals.{unless, settle}
use Rattle.gic_records.specs.Columns.{text_at, time_in, time_of}
use Rattle.gic_records.specs.Records.{records_of}
use Rattle.gic_records.specs.Rows.{breaks_records}
use Rattle.gic_case.specs.Lists.{Lists}
use Rattle.gic_model.specs.declared.parts.Item.TheVariants as items
use Rattle.gic_model.specs.declared.parts.Switching.{Switching}
use Rattle.gic_switch.specs.Columns.{is_head, action_in, opens, switching_follows}
use Rattle.gic_switch.specs.Items.{item_in}
use Rattle.gic_switch.specs.declared.action.Action.{Action}
use Rattle.gic_switch.specs.declared.action.Action.TheVariants.{Open}
use Rattle.gic_switch.specs.declared.refusal.SwitchRefusal.{SwitchRefusal}
use Rattle.gic_switch.specs.declared.refusal.SwitchRefusal.TheVariants as refusals

-- the action of a record, open where it has none
abbrev pub action_or_open : List (List ℕ) → Action
action_or_open columns = unwrap_or (action_in columns) Open

-- the rules of one record, over a case, after a record of the time before
unfoldable pub breaks_switching_record : Lists → (row : ℕ) → (before : Option ℕ) → (columns : List (List ℕ)) → List SwitchRefusal
breaks_switching_record case row before columns =
    unless (nat_le row MOST_SWITCHINGS) refusals.TooMany
    ++ (unless (length columns == 3) (refusals.Shape row)
    ++ (unless (is_some (time_in columns)) (refusals.Number row)
    ++ (unless (switching_follows before (time_of columns)) (refusals.Order row)
    ++ (unless (is_some (action_in columns)) (refusals.Action row)
    ++ unless (is_some (item_in case (action_or_open columns) (text_at columns 1))) (refusals.Item row)))))

-- all rules on the records, in their order: the first one is time,item,action, and each further one keeps its rules
abbrev pub switching_refusals : Lists → List (List (List ℕ)) → List SwitchRefusal
switching_refusals case [] = refusals.Shape 0 ∷ []
switching_refusals case (first ∷ records) = unless (is_head first) (refusals.Shape 0) ++ breaks_records (breaks_switching_record case) 1 None records

-- the switching that a record is, a field that breaks its rule taken as zero
unfoldable pub switching_of : Lists → List (List ℕ) → Switching
switching_of case columns = record {
  time = time_of columns;
  item = unwrap_or (item_in case (action_or_open columns) (text_at columns 1)) (items.Line 0);
  opens = opens (action_or_open columns);
}

-- the switchings that the records after the first are
abbrev pub list_of : Lists → List (List (List ℕ)) → List Switching
list_of case [] = []
list_of case (first ∷ records) = map (switching_of case) records

-- the switchings that the bytes are, or the first rule that they break
unfoldable pub switchings_of : Lists → List ℕ → Result (List Switching) SwitchRefusal
switchings_of case bytes = settle (switching_refusals case (records_of bytes)) (list_of case (records_of bytes))
