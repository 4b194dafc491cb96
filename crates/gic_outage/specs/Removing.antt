-- Items of a network, and the row that opens one.
use Rattle.std.specs.Prelude.{Bool, true, not, List}
use Rattle.std.specs.List.{filter, list_any}
use Rattle.gic_model.specs.declared.parts.Item.{Item}
use Rattle.gic_model.specs.declared.parts.Switching.{Switching}
use Rattle.gic_model.specs.Standing.{is_item}
use Rattle.gic_model.specs.Sums.{Placed}

-- no element of the item stands
abbrev pub is_idle : List Placed → Item → Bool
is_idle standing item = not (list_any (λ p. is_item p.1.item item) standing)

-- the elements of other items
abbrev pub others : Item → List Placed → List Placed
others item elements = filter (λ p. not (is_item p.1.item item)) elements

-- the row of a switching list that opens an item
abbrev pub opening : Item → Switching
opening item = record { time = 0; item = item; opens = true }
