-- The range of all potentials of varied solutions: the greatest potentials of all live nodes are those of one network, and the least those of another.
use Rattle.std.specs.Prelude.{ℕ, ◌≡◌, ◌*◌, ◌⊎◌, Bool, List, IsTrue, ℤ, pos, neg_ℤ, ◌+ℤ◌, ◌-ℤ◌, ◌*ℤ◌, ◌≤ℤ◌}
use Rattle.std.specs.List.{All}
use Rattle.gic_fixed.specs.Ends.{Ends}
use Rattle.gic_model.specs.declared.parts.Element.{Element}
use Rattle.gic_model.specs.declared.parts.Item.{Item}
use Rattle.gic_model.specs.Earthing.{AreEarthed}
use Rattle.gic_model.specs.Limits.{IsWithinLimits}
use Rattle.gic_model.specs.Network.{Network}
use Rattle.gic_model.specs.Solution.{Solution, IsSolution}
use Rattle.gic_model.specs.Standing.{IsLive, standing_elements}
use Rattle.gic_model.specs.Sums.{Placed}
use Rattle.gic_varied.specs.Bounds.{AreModest}
use Rattle.gic_varied.specs.Certified.{HoldPotentials}
use Rattle.gic_varied.specs.Corners.{Corner, corner_ohm, with_corner, raising_height, lowering_height}
use Rattle.gic_varied.specs.Grounds.{is_ground, HaveNoGroundVolts, with_grounds}
use Rattle.gic_varied.specs.Ranges.{Range, Ranges, AreInRanges}
use Rattle.gic_varied.specs.Varied.{IsVaried}

-- a ground raises its node the most: it has its greatest resistance where the node isn't below 0, so that it takes the least, or its least where the node isn't above 0, so that it gives the most
abbrev pub IsRaising : Range → (ohm : ℕ) → (potential : ℤ) → Type 0
IsRaising range ohm potential = ((ohm ≡ range.most) × (pos 0 ≤ℤ potential)) ⊎ ((ohm ≡ range.least) × (potential ≤ℤ pos 0))

-- each ground does so
abbrev pub AreRaising : List Placed → Ranges → (Element → ℕ) → (potential : ℕ → ℤ) → Type 0
AreRaising standing ranges ohm potential = All (λ p. IsTrue (is_ground p.1) → IsRaising (ranges p.1) (ohm p.1) (potential p.1.from.0)) standing

-- each ground lowers its node the most: as it raises one whose potential has the other sign
abbrev pub AreLowering : List Placed → Ranges → (Element → ℕ) → (potential : ℕ → ℤ) → Type 0
AreLowering standing ranges ohm potential = AreRaising standing ranges ohm (λ k. neg_ℤ (potential k))

-- at the node k the one's potential isn't above the other's
abbrev pub IsAtMostAt : (one other : Solution) → (k : ℕ) → Type 0
IsAtMostAt one other k = (pos other.denominator *ℤ one.potential k) ≤ℤ (pos one.denominator *ℤ other.potential k)

-- where each ground of a network raises its node the most, by the signs of that network's own potentials, no varied solution's potential is above that network's, at any live node
abbrev pub RaisingGroundsGiveGreatestPotentials : Type 0
RaisingGroundsGiveGreatestPotentials = (network : Network) (stands : Item → Bool) (ranges : Ranges) (ohm : Element → ℕ) (volts : ℕ → ℤ) (greatest varied : Solution) (k : ℕ) →
    let standing = standing_elements network stands in
    IsWithinLimits network → AreEarthed standing → HaveNoGroundVolts standing volts → AreInRanges ranges ohm standing →
    IsSolution (standing_elements (with_grounds ohm network) stands) volts greatest → AreRaising standing ranges ohm greatest.potential →
    IsVaried standing ranges volts varied → IsLive standing k → IsAtMostAt varied greatest k

-- and where each lowers it the most, none is below
abbrev pub LoweringGroundsGiveLeastPotentials : Type 0
LoweringGroundsGiveLeastPotentials = (network : Network) (stands : Item → Bool) (ranges : Ranges) (ohm : Element → ℕ) (volts : ℕ → ℤ) (least varied : Solution) (k : ℕ) →
    let standing = standing_elements network stands in
    IsWithinLimits network → AreEarthed standing → HaveNoGroundVolts standing volts → AreInRanges ranges ohm standing →
    IsSolution (standing_elements (with_grounds ohm network) stands) volts least → AreLowering standing ranges ohm least.potential →
    IsVaried standing ranges volts varied → IsLive standing k → IsAtMostAt least varied k

-- at no standing ground is the node further than so many units on the side of 0 on which the ground's end of its range doesn't raise it the most, nor lower it
abbrev pub AreHeightsAtMost : List Placed → (height : ℕ → ℤ) → (most : ℕ) → Type 0
AreHeightsAtMost standing height most = All (λ p. IsTrue (is_ground p.1) → height p.1.from.0 ≤ℤ pos most) standing

-- the same of certain intervals of the potentials at a corner of modest ranges, whose signs may leave something open: no varied potential is above the interval by more than 20 times what they leave open at the grounds
abbrev pub CertifiedCornersRaise : Type 0
CertifiedCornersRaise = (network : Network) (stands : Item → Bool) (ranges : Ranges) (corner : Corner) (volts : ℕ → ℤ) (unit : ℕ) (ends : ℕ → Ends) (open_height : ℕ) (varied : Solution) (k : ℕ) →
    let standing = standing_elements network stands in
    IsWithinLimits network → IsWithinLimits (with_corner ranges corner network) → AreEarthed standing → HaveNoGroundVolts standing volts →
    AreInRanges ranges (corner_ohm ranges corner) standing → AreModest ranges standing →
    HoldPotentials (standing_elements (with_corner ranges corner network) stands) volts unit ends → AreHeightsAtMost standing (raising_height corner ends) open_height →
    IsVaried standing ranges volts varied → IsLive standing k →
    varied.potential k ≤ℤ (((ends k).high +ℤ pos (20 * open_height)) *ℤ pos (unit * varied.denominator))

-- and none is below it by more
abbrev pub CertifiedCornersLower : Type 0
CertifiedCornersLower = (network : Network) (stands : Item → Bool) (ranges : Ranges) (corner : Corner) (volts : ℕ → ℤ) (unit : ℕ) (ends : ℕ → Ends) (open_height : ℕ) (varied : Solution) (k : ℕ) →
    let standing = standing_elements network stands in
    IsWithinLimits network → IsWithinLimits (with_corner ranges corner network) → AreEarthed standing → HaveNoGroundVolts standing volts →
    AreInRanges ranges (corner_ohm ranges corner) standing → AreModest ranges standing →
    HoldPotentials (standing_elements (with_corner ranges corner network) stands) volts unit ends → AreHeightsAtMost standing (lowering_height corner ends) open_height →
    IsVaried standing ranges volts varied → IsLive standing k →
    (((ends k).low -ℤ pos (20 * open_height)) *ℤ pos (unit * varied.denominator)) ≤ℤ varied.potential k
