-- A net with the first rows of a list of switchings in force. For the contracts of this crate.
use Rattle.std.specs.Prelude.{◌≡◌, ◌≤◌, ◌-◌, ℕ, nat_le, Bool, not, true, false, List, length, take, drop, IsTrue, if◌then◌else◌}
use Rattle.std.specs.List.{fold, list_any}
use Rattle.gic_model.specs.declared.parts.Item.{Item}
use Rattle.gic_model.specs.declared.parts.Switching.{Switching}
use Rattle.gic_model.specs.Standing.{stands_after}
use Rattle.gic_net.specs.Switched.{has_element}
use Rattle.gic_net.specs.Net.{NetView, stands, switched_net, is_switched}
use Rattle.gic_course.specs.declared.switched.SwitchedNet.{SwitchedNet}

-- the net after all that the rows name was closed, one by one
abbrev pub closed_after : NetView → List Switching → NetView
closed_after net rows = fold (λ now row. switched_net now row.item false) net rows

-- whether one of the rows, put in force one by one, changes what stands: one does where not all are so already
abbrev pub change : NetView → List Switching → Bool
change net rows = list_any (λ row. not (is_switched net row.item row.opens)) rows

-- whether what stands may change on the way to a given number of rows in force; on the way back it may
abbrev pub changes_to : SwitchedNet → List Switching → (through : ℕ) → Bool
changes_to now rows through = if nat_le now.through through then change now.net (take (through - now.through) (drop now.through rows)) else true

-- each item that has an element stands as the rows in force say
pub record StandsThrough (rows : List Switching) (now : SwitchedNet) : Type 0 where
  pub within : now.through ≤ length rows
  pub items : (item : Item) → IsTrue (has_element now.net.network item) → stands now.net item ≡ stands_after (take now.through rows) item

-- the first rows are in force, this many, and the elements stay
pub record IsSwitchedTo (rows : List Switching) (many : ℕ) (old new : SwitchedNet) : Type 0 where
  pub stands : StandsThrough rows new
  pub through : new.through ≡ many
  pub network : new.net.network ≡ old.net.network
