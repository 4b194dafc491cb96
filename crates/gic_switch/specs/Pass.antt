-- What one pass over the records reads, up to the first fault. Private functions are proved to read this; the contract of the reader speaks of the rules.
use Rattle.std.specs.Prelude.{ℕ, ◌==◌, List, [], ◌∷◌, length, Option, None, Result, Ok, Err}
use Rattle.gic_base.specs.declared.limits.TheConstants.{MOST_SWITCHINGS}
use Rattle.gic_base.specs.Passes.{◌>>=◌, or_refuse, test}
use Rattle.gic_records.specs.Columns.{text_at, time_in}
use Rattle.gic_records.specs.RowPass.{rows_in}
use Rattle.gic_case.specs.Lists.{Lists}
use Rattle.gic_model.specs.declared.parts.Switching.{Switching}
use Rattle.gic_switch.specs.Columns.{is_head, action_in, opens, switching_follows}
use Rattle.gic_switch.specs.Items.{item_in}
use Rattle.gic_switch.specs.declared.refusal.SwitchRefusal.{SwitchRefusal}
use Rattle.gic_switch.specs.declared.refusal.SwitchRefusal.TheVariants as refusals

-- the switching that a record is, at a row that is not too late
unfoldable pub row_in : Lists → (row : ℕ) → (before : Option ℕ) → (columns : List (List ℕ)) → Result Switching SwitchRefusal
row_in case row before columns = do
  shape ← test (length columns == 3) (refusals.Shape row)
  time ← or_refuse (time_in columns) (refusals.Number row)
  order ← test (switching_follows before time) (refusals.Order row)
  action ← or_refuse (action_in columns) (refusals.Action row)
  item ← or_refuse (item_in case action (text_at columns 1)) (refusals.Item row)
  Ok (record { time = time; item = item; opens = opens action })

-- the switchings of the records after the first
abbrev pub switching_rows : Lists → List (List (List ℕ)) → Result (List Switching) SwitchRefusal
switching_rows case = rows_in (row_in case) (λ s. s.time) MOST_SWITCHINGS refusals.TooMany 1 None

-- the switchings that the records are, or the first broken rule
unfoldable pub switchings_from : Lists → List (List (List ℕ)) → Result (List Switching) SwitchRefusal
switchings_from case [] = Err (refusals.Shape 0)
switchings_from case (first ∷ records) = test (is_head first) (refusals.Shape 0) >>= (λ head. switching_rows case records)
