-- The set of a network's open items, as rows change it one by one.
use Rattle.std.specs.Prelude.{Bool, not, List, if◌then◌else◌}
use Rattle.std.specs.List.{list_any, fold}
use Rattle.std.specs.Ordering.{nat_cmp}
use Rattle.std.specs.FinSet as set
use Rattle.gic_model.specs.declared.parts.Item.{Item}
use Rattle.gic_model.specs.declared.parts.Switching.{Switching}
use Rattle.gic_model.specs.Network.{Network}
use Rattle.gic_model.specs.Standing.{item_number, is_item}

-- items by their numbers
abbrev pub Items : Type 0
Items = set.FinSet nat_cmp

-- whether an element of the network is of this item
abbrev pub has_element : Network → Item → Bool
has_element network item = list_any (λ e. is_item e.item item) network.list

-- an item stands where it is not among the open ones
abbrev pub stands_without : Items → Item → Bool
stands_without opened item = not (set.contains opened (item_number item))

-- the open items after one row: its item is among them or not, and all others are as before; an item without an element changes nothing
abbrev pub switched : Network → Items → Switching → Items
switched network opened row =
    if has_element network row.item
    then (if row.opens then set.insert opened (item_number row.item) else set.remove opened (item_number row.item))
    else opened

-- the open items after the rows, one by one
abbrev pub switched_by : Network → Items → List Switching → Items
switched_by network opened rows = fold (λ now row. switched network now row) opened rows
