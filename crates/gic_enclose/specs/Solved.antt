-- What a solve promises for a width.
use Rattle.std.specs.Prelude.{ℕ, ◌≤◌, List, ℤ}
use Rattle.gic_model.specs.Sharp.{IsSharp}
use Rattle.gic_model.specs.Sums.{Placed}
use Rattle.gic_enclose.specs.Ends.{low_at, high_at}
use Rattle.gic_fixed.specs.Ends.{Ends}
use Rattle.gic_enclose.specs.Certain.{AreCertain}

-- a width that can be asked for, in milliamperes and in millivolts
pub record IsWidth (width : ℕ) : Type 0 where
  pub least : 5 ≤ width
  pub most : width ≤ 10000

-- the potentials hold those of every solution, and no interval in millivolts or milliamperes that they give is wider
pub record IsSolvedWithin (standing : List Placed) (volts : ℕ → ℤ) (width : ℕ) (potentials : List Ends) : Type 0 where
  pub certain : AreCertain standing volts potentials
  pub sharp : IsSharp standing volts (low_at potentials) (high_at potentials) width
