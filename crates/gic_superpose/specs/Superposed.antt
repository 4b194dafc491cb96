-- The interval that the fields of a step make of a quantity's intervals in the base fields, in which one zone alone has a field, of MOST_FIELD.
use Rattle.std.specs.Prelude.{ℕ, ◌*◌, List, length, ℤ, pos, ◌+ℤ◌, ◌*ℤ◌, ◌≤ℤ◌, slice_index_or}
use Rattle.std.specs.Int.{int_min, int_max}
use Rattle.gic_base.specs.declared.limits.TheConstants.{MOST_FIELD}
use Rattle.gic_fixed.specs.Ends.{Ends, zero_ends, IsAtMostWide}
use Rattle.gic_fixed.specs.Rounding.{floor_div, ceil_div}
use Rattle.gic_induce.specs.Fields.{zone_field}
use Rattle.gic_superpose.specs.Sums.{sum_below}

-- the intervals of a quantity in the two base fields of a zone
pub record ZoneEnds : Type 0 where
  pub north : Ends
  pub east : Ends

-- 0 alone in both
abbrev pub no_zone_ends : ZoneEnds
no_zone_ends = record { north = zero_ends; east = zero_ends }

-- those of this zone, of a row with one for each zone
abbrev pub zone_at : List ZoneEnds → ℕ → ZoneEnds
zone_at row zone = slice_index_or row zone no_zone_ends

-- the ends of `part` times an interval: a part below 0 swaps them
abbrev pub low_part : Ends → ℤ → ℤ
low_part ends part = int_min (ends.low *ℤ part) (ends.high *ℤ part)

abbrev pub high_part : Ends → ℤ → ℤ
high_part ends part = int_max (ends.low *ℤ part) (ends.high *ℤ part)

-- the ends of what the field of a zone makes of its two intervals
abbrev pub zone_low : ℤ × ℤ → ZoneEnds → ℤ
zone_low field zone = low_part zone.north field.0 +ℤ low_part zone.east field.1

abbrev pub zone_high : ℤ × ℤ → ZoneEnds → ℤ
zone_high field zone = high_part zone.north field.0 +ℤ high_part zone.east field.1

-- those of all zones, added up
abbrev pub sum_low : List (ℤ × ℤ) → List ZoneEnds → ℤ
sum_low fields row = sum_below (λ zone. zone_low (zone_field fields zone) (zone_at row zone)) (length fields)

abbrev pub sum_high : List (ℤ × ℤ) → List ZoneEnds → ℤ
sum_high fields row = sum_below (λ zone. zone_high (zone_field fields zone) (zone_at row zone)) (length fields)

-- what a sum over intervals in nanovolts or nanoamperes is to be divided by for millivolts or milliamperes
abbrev pub sums_in_milli : ℕ
sums_in_milli = MOST_FIELD * 1000000

-- the superposed interval in millivolts or milliamperes, of intervals in nanovolts or nanoamperes: rounded outward, once
abbrev pub superposed : List (ℤ × ℤ) → List ZoneEnds → Ends
superposed fields row = record {
  low = floor_div (sum_low fields row) (pos sums_in_milli);
  high = ceil_div (sum_high fields row) (pos sums_in_milli);
}

-- an interval that begins no higher than it ends, and is at most 1000 wide
pub record IsNarrowBase (ends : Ends) : Type 0 where
  pub ordered : ends.low ≤ℤ ends.high
  pub width : IsAtMostWide 1000 ends.low ends.high

-- both intervals of a zone are so
pub record IsNarrowZone (zone : ZoneEnds) : Type 0 where
  pub north : IsNarrowBase zone.north
  pub east : IsNarrowBase zone.east
