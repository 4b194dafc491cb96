-- When numbers of 64 bits serve for superposed intervals.
use Rattle.std.specs.Prelude.{ℕ, ◌*◌, ◌/◌, ◌^◌, ◌<◌, ◌⊎◌, unsigned_abs}
use Rattle.gic_base.specs.declared.limits.TheConstants.{MOST_FIELD}
use Rattle.gic_fixed.specs.Ends.{Ends}
use Rattle.gic_fixed.specs.Encloses.{IsWithin}
use Rattle.gic_superpose.specs.declared.pairs.ZonePair.{ZonePair}

-- the most that a sum may be, either way, that is divided in 64 bits
abbrev pub most_sum : ℕ
most_sum = 2 ^ 62

-- the most that an end may be, either way, so that the products with the parts of the fields of a given number of zones, added up, are within this
abbrev pub most_compact : (zones : ℕ) → ℕ
most_compact zones = most_sum / (2 * MOST_FIELD * zones)

-- an end of the interval is beyond this
abbrev pub IsBeyond : (zones : ℕ) → Ends → Type 0
IsBeyond zones ends = (most_compact zones < unsigned_abs ends.low) ⊎ (most_compact zones < unsigned_abs ends.high)

-- all four ends are within this
pub record IsCompact (zones : ℕ) (pair : ZonePair) : Type 0 where
  pub north : IsWithin (most_compact zones) pair.north.lo pair.north.hi
  pub east : IsWithin (most_compact zones) pair.east.lo pair.east.hi
