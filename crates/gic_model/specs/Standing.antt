-- The elements that stand, each with its place: all that Ohm's and Kirchhoff's laws speak of. Which ones stand is a test on their items, so that the windings of a transformer are switched as one.
use Rattle.std.specs.Prelude.{ℕ, ◌+◌, ◌*◌, ◌==◌, nat_le, Bool, true, not, List, reverse, IsTrue, if◌then◌else◌, ℤ, pos, neg_ℤ}
use Rattle.std.specs.List.{filter, find, list_any, enumerate_from}
use Rattle.std.specs.Option.{option_map_or}
use Rattle.gic_model.specs.declared.parts.End.{End}
use Rattle.gic_model.specs.declared.parts.End.TheVariants.{Node, Earth}
use Rattle.gic_model.specs.declared.parts.Item.{Item}
use Rattle.gic_model.specs.declared.parts.Item.TheVariants.{Ground, Line, Transformer, Neutral}
use Rattle.gic_model.specs.declared.parts.Element.{Element}
use Rattle.gic_model.specs.declared.parts.Switching.{Switching}
use Rattle.gic_model.specs.Network.{Network, ends_at}
use Rattle.gic_model.specs.Sums.{Placed}

-- a number for each item, and for no two items the same
abbrev pub item_number : Item → ℕ
item_number (Ground place) = 4 * place
item_number (Line place) = 4 * place + 1
item_number (Transformer place) = 4 * place + 2
item_number (Neutral place) = 4 * place + 3

-- whether the two items are one
abbrev pub is_item : Item → Item → Bool
is_item a b = item_number a == item_number b

-- an item stands after all rows of a switching list, whatever their times, where the last row that names it does not open it, or no row names it
abbrev pub stands_after : List Switching → Item → Bool
stands_after rows item = option_map_or (λ row. not row.opens) (find (λ row. is_item row.item item) (reverse rows)) true

-- the rows in force at a time: those whose time is not above it
abbrev pub rows_in_force : ℕ → List Switching → List Switching
rows_in_force time rows = filter (λ row. nat_le row.time time) rows

-- the elements whose items pass the test, in their order
abbrev pub standing_elements : Network → (Item → Bool) → List Placed
standing_elements network stands = filter (λ p. stands p.1.item) (enumerate_from 0 network.list)

-- a node is live where a standing element ends at it, else dead
abbrev pub is_live : List Placed → ℕ → Bool
is_live standing k = list_any (λ p. ends_at p.1 k) standing

-- the same as a fact
abbrev pub IsLive : List Placed → ℕ → Type 0
IsLive standing k = IsTrue (is_live standing k)

-- the standing elements that end at the node k, in their order
abbrev pub elements_at : List Placed → ℕ → List Placed
elements_at standing k = filter (λ p. ends_at p.1 k) standing

-- whether the element at this place stands
abbrev pub is_standing : List Placed → ℕ → Bool
is_standing standing place = list_any (λ p. p.0 == place) standing

-- the other end of an element that ends at the node k
abbrev pub other_end : ℕ → Element → End
other_end k e = if e.from.0 == k then e.to else Node e.from

-- the value of f at an end, 0 at earth
abbrev pub value_at : (ℕ → ℤ) → End → ℤ
value_at f (Node m) = f m.0
value_at f Earth = pos 0

-- what leaves the node k where z runs from the element's `from` to its `to`
abbrev pub leaving : ℕ → Element → ℤ → ℤ
leaving k e z = if e.from.0 == k then z else neg_ℤ z
