-- The items of a case by their names.
use Rattle.std.specs.Prelude.{◌≡◌, ℕ, ◌<◌, List, length, IsTrue, Option, All}
use Rattle.gic_case.specs.Lists.{Lists}
use Rattle.gic_model.specs.declared.parts.Item.{Item}
use Rattle.gic_model.specs.declared.parts.Item.TheVariants as items
use Rattle.gic_model.specs.declared.parts.Switching.{Switching}
use Rattle.gic_switch.specs.Items.{named, has_ground, has_resistor}

-- what is found by name is what is named
abbrev pub FindsNamed : Lists → (List ℕ → Option Item) → Type 0
FindsNamed case found = (name : List ℕ) → found name ≡ named case name

-- an item of the case: a place in its lines or its transformers, a substation that has a ground, or a transformer that has a neutral resistor
abbrev pub IsItemOf : Lists → Item → Type 0
IsItemOf case (items.Line place) = place < length case.lines
IsItemOf case (items.Transformer place) = place < length case.transformers
IsItemOf case (items.Ground place) = IsTrue (has_ground case place)
IsItemOf case (items.Neutral place) = IsTrue (has_resistor case place)

-- the item of each row is one of the case's
abbrev pub AreItemsOf : Lists → List Switching → Type 0
AreItemsOf case rows = All (λ s. IsItemOf case s.item) rows
