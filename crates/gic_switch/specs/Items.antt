-- What the name in a row stands for, and the items that each action may have.
use Rattle.std.specs.Prelude.{ℕ, List, map, slice_index_or, Bool, true, false, if◌then◌else◌, Option, Some, None, option_map, option_and_then, is_some}
use Rattle.std.specs.Option.{option_or}
use Rattle.gic_case.specs.Lists.{Lists}
use Rattle.gic_case.specs.Names.{place_in}
use Rattle.gic_case.specs.declared.item.Neutral.{Neutral}
use Rattle.gic_case.specs.declared.item.Neutral.TheVariants as devices
use Rattle.gic_model.specs.declared.parts.Item.{Item}
use Rattle.gic_model.specs.declared.parts.Item.TheVariants as items
use Rattle.gic_switch.specs.declared.action.Action.{Action}
use Rattle.gic_switch.specs.declared.action.Action.TheVariants.{Open, Close, Block, Unblock}

-- what is named: a line, else a transformer, else a substation; names are unique in the whole case
abbrev pub named : Lists → (name : List ℕ) → Option Item
named case name =
    option_or (option_map items.Line (place_in (map (λ l. l.name) case.lines) name))
    (option_or (option_map items.Transformer (place_in (map (λ t. t.name) case.transformers) name))
    (option_map items.Ground (place_in (map (λ s. s.name) case.substations) name)))

-- the substation at a place has a ground
abbrev pub has_ground : Lists → ℕ → Bool
has_ground case place = slice_index_or (map (λ s. is_some s.ground) case.substations) place false

-- a neutral device that is a resistor
abbrev pub is_resistor : Option Neutral → Bool
is_resistor None = false
is_resistor (Some (devices.Resistor ohm)) = true
is_resistor (Some devices.Blocked) = false

-- the transformer at a place has a neutral resistor
abbrev pub has_resistor : Lists → ℕ → Bool
has_resistor case place = slice_index_or (map (λ t. is_resistor t.neutral) case.transformers) place false

-- open and close switch a line, the windings of a transformer, or the ground of a substation that has one
abbrev pub plain_item : Lists → Item → Option Item
plain_item case (items.Line place) = Some (items.Line place)
plain_item case (items.Transformer place) = Some (items.Transformer place)
plain_item case (items.Ground place) = if has_ground case place then Some (items.Ground place) else None
plain_item case (items.Neutral place) = None

-- block and unblock switch the neutral resistor of a transformer that has one
abbrev pub neutral_item : Lists → Item → Option Item
neutral_item case (items.Transformer place) = if has_resistor case place then Some (items.Neutral place) else None
neutral_item case (items.Line place) = None
neutral_item case (items.Ground place) = None
neutral_item case (items.Neutral place) = None

-- the item that an action switches where its row names this one
abbrev pub switched_item : Lists → Action → Item → Option Item
switched_item case Open item = plain_item case item
switched_item case Close item = plain_item case item
switched_item case Block item = neutral_item case item
switched_item case Unblock item = neutral_item case item

-- the item that an action switches by this name
unfoldable pub item_in : Lists → Action → (name : List ℕ) → Option Item
item_in case action name = option_and_then (switched_item case action) (named case name)
