-- What a net is seen as: its elements, and the set of its items that are open.
use Rattle.std.specs.Prelude.{ℕ, Bool, not, ◌||◌, List, slice_index_or, slice_set, if◌then◌else◌}
use Rattle.std.specs.List.{fold}
use Rattle.std.specs.FinSet as set
use Rattle.gic_model.specs.declared.parts.End.TheVariants.{Earth}
use Rattle.gic_model.specs.declared.parts.Item.{Item}
use Rattle.gic_model.specs.declared.parts.Item.TheVariants as item
use Rattle.gic_model.specs.declared.parts.Role.TheVariants as role
use Rattle.gic_model.specs.declared.parts.Element.{Element}
use Rattle.gic_model.specs.declared.parts.Switching.{Switching}
use Rattle.gic_model.specs.Network.{Network}
use Rattle.gic_model.specs.Standing.{standing_elements, elements_at}
use Rattle.gic_model.specs.Sums.{Placed}
use Rattle.gic_net.specs.Switched.{Items, has_element, stands_without, switched}

-- the elements, and the items that are open, by their numbers
pub record NetView : Type 0 where
  pub network : Network
  pub open_items : Items

-- an item stands where it is not open
abbrev pub stands : NetView → Item → Bool
stands net item = stands_without net.open_items item

-- the standing elements in their order, each with its place
abbrev pub standing : NetView → List Placed
standing net = standing_elements net.network (stands net)

-- what a list is said to have past its end
abbrev pub no_element : Element
no_element = record { from = record { 0 = 0 }; to = Earth; times = 1; micro_ohm = 1000; item = item.Ground 0; role = role.Ground }

-- the element at a place
abbrev pub element_of : Network → ℕ → Element
element_of network place = slice_index_or network.list place no_element

-- the network with another resistance of the element at a place, in micro-ohm
abbrev pub with_resistance : Network → (place micro_ohm : ℕ) → Network
with_resistance network place micro_ohm = record network { list = slice_set network.list place (record (element_of network place) { micro_ohm = micro_ohm }) }

-- the standing elements at the node k, in their order
abbrev pub row_at : NetView → ℕ → List Placed
row_at net k = elements_at (standing net) k

-- one of them
abbrev pub placed_at : NetView → ℕ → ℕ → Placed
placed_at net k place = slice_index_or (row_at net k) place (0, no_element)

-- a net in which all elements stand
abbrev pub closed_net : Network → NetView
closed_net network = record { network = network; open_items = set.empty }

-- the net after this item was opened or closed
abbrev pub switched_net : NetView → Item → Bool → NetView
switched_net net item opens = record net { open_items = switched net.network net.open_items (record { time = 0; item = item; opens = opens }) }

-- whether an item is open, or closed, already; one that has no element is both
abbrev pub is_switched : NetView → Item → Bool → Bool
is_switched net item opens = not (has_element net.network item) || (if stands net item then not opens else opens)

-- the net after the rows of a switching list, one by one
abbrev pub net_after : NetView → List Switching → NetView
net_after net rows = fold (λ now row. switched_net now row.item row.opens) net rows
