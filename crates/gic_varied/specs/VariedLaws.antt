-- What the theorems say of ranges and of varied solutions.
use Rattle.std.specs.Prelude.{ℕ, ◌+◌, ◌-◌, ◌*◌, ◌≤◌, Bool, ℤ}
use Rattle.gic_model.specs.declared.parts.Element.{Element}
use Rattle.gic_model.specs.declared.parts.Item.{Item}
use Rattle.gic_model.specs.Network.{Network}
use Rattle.gic_model.specs.Limits.{IsWithinLimits}
use Rattle.gic_model.specs.Standing.{standing_elements}
use Rattle.gic_model.specs.Solution.{Solution, IsSolution}
use Rattle.gic_varied.specs.Grounds.{HaveNoGroundVolts, with_grounds}
use Rattle.gic_varied.specs.Ranges.{Ranges, ground_range, ranges_of, AreInRanges}
use Rattle.gic_varied.specs.Varied.{IsVaried}

-- the range holds each resistance a/b within the tolerance that a case can have, whole or not
pub record HoldsTolerance (percent ohm a b : ℕ) : Type 0 where
  pub at_least : (ground_range percent ohm).least * b ≤ a
  pub at_most : a ≤ (ground_range percent ohm).most * b

abbrev pub RangesHoldTolerances : Type 0
RangesHoldTolerances = (percent ohm a b : ℕ) →
    ohm * (100 - percent) * b ≤ 100 * a → 100 * a ≤ ohm * (100 + percent) * b →
    1000 * b ≤ a → a ≤ 1000000000 * b → HoldsTolerance percent ohm a b

-- in a network within the limits each ground's own resistance lies in its range, whatever the tolerances
abbrev pub OwnGroundsAreInRanges : Type 0
OwnGroundsAreInRanges = (network : Network) (stands : Item → Bool) (percent : Item → ℕ) →
    IsWithinLimits network → AreInRanges (ranges_of percent) (λ e. e.micro_ohm) (standing_elements network stands)

-- each solution of a network whose grounds lie within their ranges is a varied solution
abbrev pub SolutionsAreVaried : Type 0
SolutionsAreVaried = (network : Network) (stands : Item → Bool) (ranges : Ranges) (ohm : Element → ℕ) (volts : ℕ → ℤ) (s : Solution) →
    let standing = standing_elements network stands in
    AreInRanges ranges ohm standing → HaveNoGroundVolts standing volts →
    IsSolution (standing_elements (with_grounds ohm network) stands) volts s → IsVaried standing ranges volts s

-- so is each solution of the network itself, where its own grounds lie within their ranges
abbrev pub OwnSolutionsAreVaried : Type 0
OwnSolutionsAreVaried = (network : Network) (stands : Item → Bool) (ranges : Ranges) (volts : ℕ → ℤ) (s : Solution) →
    let standing = standing_elements network stands in
    AreInRanges ranges (λ e. e.micro_ohm) standing → HaveNoGroundVolts standing volts →
    IsSolution standing volts s → IsVaried standing ranges volts s
