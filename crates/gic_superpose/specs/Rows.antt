-- Rows of intervals, one after the other in one list.
use Rattle.std.specs.Prelude.{◌≡◌, ℕ, ◌*◌, ◌≤◌, Bool, IsTrue, List, All, length, take, drop}
use Rattle.gic_base.specs.declared.limits.TheConstants.{MOST_ZONES}
use Rattle.gic_superpose.specs.declared.pairs.ZonePair.{ZonePair}
use Rattle.gic_superpose.specs.Superposed.{ZoneEnds}
use Rattle.gic_superpose.specs.Pairs.{IsSmallPair}
use Rattle.gic_superpose.specs.Compact.{IsCompact}

-- how many rows there are, how many zones each has, and the intervals of all rows
pub record FlatRows : Type 0 where
  pub places : ℕ
  pub zones : ℕ
  pub pairs : List ZoneEnds

-- the row at a place
abbrev pub row_at : FlatRows → (place : ℕ) → List ZoneEnds
row_at rows place = take rows.zones (drop (place * rows.zones) rows.pairs)

-- a given number of rows of a given number of zones
pub record AreRowsOf (places zones : ℕ) (rows : FlatRows) : Type 0 where
  pub place_count : rows.places ≡ places
  pub zone_count : rows.zones ≡ zones

-- the pairs of a given number of rows of a given number of zones, each small, for all of which 64 bits serve where these are chosen
pub record ArePairsOf (places zones : ℕ) (pairs : List ZonePair) (in_64_bits : Bool) : Type 0 where
  pub count : length pairs ≡ places * zones
  pub few : zones ≤ MOST_ZONES
  pub small : All IsSmallPair pairs
  pub compact : IsTrue in_64_bits → All (IsCompact zones) pairs
