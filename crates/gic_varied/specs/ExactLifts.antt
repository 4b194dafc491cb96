-- Potentials of varied solutions beside the exact lifts of the reference enclosure.
use Rattle.std.specs.Prelude.{ℕ, ◌≡◌, Bool, ℤ}
use Rattle.gic_model.specs.declared.parts.Item.{Item}
use Rattle.gic_model.specs.Earthing.{AreEarthed}
use Rattle.gic_model.specs.Limits.{IsWithinLimits}
use Rattle.gic_model.specs.Network.{Network}
use Rattle.gic_model.specs.Solution.{Solution, IsSolution}
use Rattle.gic_model.specs.Standing.{IsLive, standing_elements}
use Rattle.gic_varied.specs.Grounds.{HaveNoGroundVolts}
use Rattle.gic_varied.specs.Lifts.{IsRaisedAtMost, IsLoweredAtMost, with_least}
use Rattle.gic_varied.specs.Near.{IsExactLift, heights, depths}
use Rattle.gic_varied.specs.Ranges.{Ranges, AreInRanges}
use Rattle.gic_varied.specs.Varied.{IsVaried}

-- where each live node is earthed, no varied potential is above that with the grounds at their least by more than the exact lift over its heights: so the greatest potentials of all varied solutions lie within P + x⁺
abbrev pub PotentialsAreWithinExactHeights : Type 0
PotentialsAreWithinExactHeights = (network : Network) (stands : Item → Bool) (ranges : Ranges) (volts : ℕ → ℤ) (reference varied raising : Solution) (k : ℕ) →
    let standing = standing_elements network stands in
    IsWithinLimits network → AreEarthed standing → HaveNoGroundVolts standing volts → AreInRanges ranges (λ e. (ranges e).least) standing →
    IsSolution (standing_elements (with_least ranges network) stands) volts reference →
    IsExactLift standing ranges (heights reference.potential) raising → raising.denominator ≡ reference.denominator →
    IsVaried standing ranges volts varied → IsLive standing k → IsRaisedAtMost varied reference raising k

-- and none is below it by more than that over its depths: so the least lie within P - x⁻, and with the exact ranges of potentials in the place of the lifts the reference enclosure gets no wider
abbrev pub PotentialsAreWithinExactDepths : Type 0
PotentialsAreWithinExactDepths = (network : Network) (stands : Item → Bool) (ranges : Ranges) (volts : ℕ → ℤ) (reference varied lowering : Solution) (k : ℕ) →
    let standing = standing_elements network stands in
    IsWithinLimits network → AreEarthed standing → HaveNoGroundVolts standing volts → AreInRanges ranges (λ e. (ranges e).least) standing →
    IsSolution (standing_elements (with_least ranges network) stands) volts reference →
    IsExactLift standing ranges (depths reference.potential) lowering → lowering.denominator ≡ reference.denominator →
    IsVaried standing ranges volts varied → IsLive standing k → IsLoweredAtMost varied reference lowering k
