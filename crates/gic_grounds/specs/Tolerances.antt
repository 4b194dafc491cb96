-- The tolerances of grounds in per cent, and the ranges that they give.
use Rattle.std.specs.Prelude.{ℕ, List, map, None, slice_index_or, unwrap_or}
use Rattle.gic_case.specs.declared.item.Substation.{Substation}
use Rattle.gic_case.specs.Lists.{Lists}
use Rattle.gic_model.specs.declared.parts.Item.{Item}
use Rattle.gic_model.specs.declared.parts.Item.TheVariants as item
use Rattle.gic_varied.specs.Ranges.{Ranges, ranges_of}

-- that of the substation at a place: its own, or else this one
abbrev pub tolerance_in : List Substation → (percent place : ℕ) → ℕ
tolerance_in substations percent place = unwrap_or (slice_index_or (map (λ s. s.tolerance) substations) place None) percent

-- that of an item: a ground has that of its substation, every other item this one
abbrev pub tolerance_at : Lists → (percent : ℕ) → Item → ℕ
tolerance_at case percent (item.Ground place) = tolerance_in case.substations percent place
tolerance_at case percent (item.Line place) = percent
tolerance_at case percent (item.Transformer place) = percent
tolerance_at case percent (item.Neutral place) = percent

-- the ranges of the grounds of a case
abbrev pub case_ranges : Lists → (percent : ℕ) → Ranges
case_ranges case percent = ranges_of (tolerance_at case percent)
