-- Which items are taken out, and in which order.
use Rattle.std.specs.Prelude.{ℕ, List, ◌++◌, length, map}
use Rattle.std.specs.List.{range_with_len}
use Rattle.gic_case.specs.Lists.{Lists}
use Rattle.gic_model.specs.declared.parts.Item.{Item}
use Rattle.gic_model.specs.declared.parts.Item.TheVariants.{Line, Transformer}

-- this many first lines of a case, and then this many of its first transformers
abbrev pub in_order : (lines transformers : ℕ) → List Item
in_order lines transformers = map Line (range_with_len 0 lines) ++ map Transformer (range_with_len 0 transformers)

-- each line, and then each transformer, in the order of the case
abbrev pub plan_of : Lists → List Item
plan_of case = in_order (length case.lines) (length case.transformers)
