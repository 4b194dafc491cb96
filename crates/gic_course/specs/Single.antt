-- When the interval of one transformer at a step is right.
use Rattle.std.specs.Prelude.{ℕ, ℤ, List}
use Rattle.gic_case.specs.Lists.{Lists}
use Rattle.gic_fixed.specs.Ends.{Ends, IsAtMostWide}
use Rattle.gic_model.specs.Sums.{Placed}
use Rattle.gic_effective.specs.RightView.{IsRightEffective}

-- the interval holds the transformer's signed effective current in every solution for these standing elements and voltages, and is no wider than this
pub record IsNarrowEffective (case : Lists) (standing : List Placed) (volts : ℕ → ℤ) (transformer width : ℕ) (ends : Ends) : Type 0 where
  pub right : IsRightEffective case standing volts transformer ends
  pub narrow : IsAtMostWide width ends.low ends.high
