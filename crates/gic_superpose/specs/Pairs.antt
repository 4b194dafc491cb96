-- The intervals of a quantity in the base fields of a zone, in numbers of 128 bits.
use Rattle.std.specs.Prelude.{ℕ, ◌-◌, ◌*◌, ◌^◌, List, map}
use Rattle.gic_fixed.specs.Ends.{ends_of}
use Rattle.gic_fixed.specs.Encloses.{IsWithin}
use Rattle.gic_superpose.specs.declared.pairs.ZonePair.{ZonePair}
use Rattle.gic_superpose.specs.Superposed.{ZoneEnds}

-- their ends
abbrev pub zone_of : ZonePair → ZoneEnds
zone_of pair = record { north = ends_of pair.north; east = ends_of pair.east }

-- those of a row with one for each zone
abbrev pub row_of : List ZonePair → List ZoneEnds
row_of row = map zone_of row

-- the most that an end may be, either way, in nanovolts, nanoamperes or nanoamperes per phase: 2^62 nanovolts over three paths of a milliohm each, so that what is superposed fits 64 bits
abbrev pub most_base : ℕ
most_base = 3000 * 2 ^ 62

-- the most that an end of a superposed interval may be, either way, in millivolts or milliamperes
abbrev pub most_superposed : ℕ
most_superposed = 2 ^ 63 - 1

-- all four ends are within this
pub record IsSmallPair (pair : ZonePair) : Type 0 where
  pub north : IsWithin most_base pair.north.lo pair.north.hi
  pub east : IsWithin most_base pair.east.lo pair.east.hi
