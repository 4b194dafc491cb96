-- The unit of potentials: so many nanovolts that no end of a reference is beyond MOST_UNITS of them.
use Rattle.std.specs.Prelude.{ℕ, ◌<◌, ◌≤◌, ◌*◌, ◌^◌, List}
use Rattle.gic_fixed.specs.Ends.{Ends}
use Rattle.gic_grounds.specs.declared.unit.TheConstants.{MOST_UNITS}
use Rattle.gic_grounds.specs.NodeEnds.{AreAllWithin}

-- all ends, in grains of 2^-36 nanovolt, are within as many units of so many nanovolts
abbrev pub AreWithinUnits : (unit : ℕ) → List Ends → Type 0
AreWithinUnits unit grains = AreAllWithin (2 ^ 36 * unit * MOST_UNITS) grains

-- the least unit above 0 that serves both references
pub record IsLeastUnit (north east : List Ends) (unit : ℕ) : Type 0 where
  pub above_0 : 0 < unit
  pub in_north : AreWithinUnits unit north
  pub in_east : AreWithinUnits unit east
  pub least : (other : ℕ) → 0 < other → AreWithinUnits other north → AreWithinUnits other east → unit ≤ other
