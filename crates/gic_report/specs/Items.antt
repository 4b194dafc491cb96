-- The items of a case.
use Rattle.std.specs.Prelude.{◌<◌, length}
use Rattle.gic_model.specs.declared.parts.Item.{Item}
use Rattle.gic_model.specs.declared.parts.Item.TheVariants as item
use Rattle.gic_case.specs.Lists.{Lists}

-- the place of the item is in its list of the case
abbrev pub HasPlace : Lists → Item → Type 0
HasPlace case (item.Ground place) = place < length case.substations
HasPlace case (item.Line place) = place < length case.lines
HasPlace case (item.Transformer place) = place < length case.transformers
HasPlace case (item.Neutral place) = place < length case.transformers
