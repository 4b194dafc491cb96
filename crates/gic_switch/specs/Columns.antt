-- What the fields of one record of a list of switchings say.
use Rattle.std.specs.Prelude.{ℕ, nat_le, ◌==◌, ◌&&◌, List, length, codes, Bool, true, false, if◌then◌else◌, Option, Some, None}
use Rattle.gic_records.specs.Columns.{is_word}
use Rattle.gic_switch.specs.declared.action.Action.{Action}
use Rattle.gic_switch.specs.declared.action.Action.TheVariants.{Open, Close, Block, Unblock}

-- the record is time,item,action
abbrev pub is_head : List (List ℕ) → Bool
is_head columns = (length columns == 3) && (is_word columns 0 (codes "time") && (is_word columns 1 (codes "item") && is_word columns 2 (codes "action")))

-- the action of a record
unfoldable pub action_in : List (List ℕ) → Option Action
action_in columns =
    if is_word columns 2 (codes "open") then Some Open
    else if is_word columns 2 (codes "close") then Some Close
    else if is_word columns 2 (codes "block") then Some Block
    else if is_word columns 2 (codes "unblock") then Some Unblock else None

-- an action opens its item or closes it
abbrev pub opens : Action → Bool
opens Open = true
opens Close = false
opens Block = true
opens Unblock = false

-- a time may follow the one before: it is no less
unfoldable pub switching_follows : Option ℕ → ℕ → Bool
switching_follows None time = true
switching_follows (Some before) time = nat_le before time
