-- How far the potentials of varied solutions lie from those of a reference: voltages at grounds that lift them by as much.
use Rattle.std.specs.Prelude.{ℕ, ◌≡◌, ◌*◌, Bool, List, IsTrue, IsFalse, ℤ, pos, neg_ℤ, ◌+ℤ◌, ◌-ℤ◌, ◌*ℤ◌, ◌≤ℤ◌}
use Rattle.std.specs.List.{All}
use Rattle.gic_model.specs.declared.parts.Element.{Element}
use Rattle.gic_model.specs.declared.parts.Item.{Item}
use Rattle.gic_model.specs.Earthing.{AreEarthed}
use Rattle.gic_model.specs.Network.{Network}
use Rattle.gic_model.specs.Limits.{IsWithinLimits}
use Rattle.gic_model.specs.Standing.{IsLive, standing_elements}
use Rattle.gic_model.specs.Solution.{Solution, IsSolution}
use Rattle.gic_model.specs.Sums.{Placed}
use Rattle.gic_varied.specs.Grounds.{is_ground, HaveNoGroundVolts, with_grounds}
use Rattle.gic_varied.specs.Ranges.{Range, Ranges, AreInRanges}
use Rattle.gic_varied.specs.Varied.{IsVaried}

-- a voltage at a ground of the greatest resistance injects -volt / most: no less than 0, than (1/R - 1/most) P and than (1/R - 1/least) P, which a ground of R micro-ohm takes at the potential P more than one of the greatest and one of the least resistance of its range
pub record IsLift (range : Range) (ohm : ℕ) (potential : ℤ) (denominator : ℕ) (volt : ℤ) : Type 0 where
  pub not_above_0 : volt ≤ℤ pos 0
  pub to_most : ((pos range.most -ℤ pos ohm) *ℤ potential) ≤ℤ (pos (denominator * ohm) *ℤ neg_ℤ volt)
  pub to_least : (pos range.most *ℤ ((pos range.least -ℤ pos ohm) *ℤ potential)) ≤ℤ (pos (denominator * ohm * range.least) *ℤ neg_ℤ volt)

-- voltages that do so at each ground, over potentials of the reference; no other element has one
pub record AreLifts (standing : List Placed) (ranges : Ranges) (ohm : Element → ℕ) (potential : ℕ → ℤ) (denominator : ℕ) (lifts : ℕ → ℤ) : Type 0 where
  pub elsewhere : All (λ p. IsFalse (is_ground p.1) → lifts p.0 ≡ pos 0) standing
  pub at_grounds : All (λ p. IsTrue (is_ground p.1) → IsLift (ranges p.1) (ohm p.1) (potential p.1.from.0) denominator (lifts p.0)) standing

-- the network with its grounds at their greatest resistances
abbrev pub with_most : Ranges → Network → Network
with_most ranges network = with_grounds (λ e. (ranges e).most) network

-- the network with its grounds at their least
abbrev pub with_least : Ranges → Network → Network
with_least ranges network = with_grounds (λ e. (ranges e).least) network

-- P' ≤ P + x of potentials of a varied solution, of the reference and of the lift, each over its own denominator
abbrev pub IsRaisedAtMost : (varied reference lift : Solution) → ℕ → Type 0
IsRaisedAtMost varied reference lift k =
    (pos (reference.denominator * lift.denominator) *ℤ varied.potential k) ≤ℤ
    (pos varied.denominator *ℤ (pos lift.denominator *ℤ reference.potential k +ℤ pos reference.denominator *ℤ lift.potential k))

-- P - x ≤ P'
abbrev pub IsLoweredAtMost : (varied reference lift : Solution) → ℕ → Type 0
IsLoweredAtMost varied reference lift k =
    (pos varied.denominator *ℤ (pos lift.denominator *ℤ reference.potential k -ℤ pos reference.denominator *ℤ lift.potential k)) ≤ℤ
    (pos (reference.denominator * lift.denominator) *ℤ varied.potential k)

-- where each live node is earthed, a varied solution's potential at a live node is above that of a reference, whatever resistances of their ranges this has at its grounds, by at most what lifts over its potentials give in the network with its grounds at their greatest
abbrev pub PotentialsAreRaisedAtMost : Type 0
PotentialsAreRaisedAtMost = (network : Network) (stands : Item → Bool) (ranges : Ranges) (ohm : Element → ℕ) (volts lifts : ℕ → ℤ) (reference varied lift : Solution) (k : ℕ) →
    let standing = standing_elements network stands in
    IsWithinLimits network → AreEarthed standing → HaveNoGroundVolts standing volts → AreInRanges ranges ohm standing →
    IsSolution (standing_elements (with_grounds ohm network) stands) volts reference → IsVaried standing ranges volts varied →
    AreLifts standing ranges ohm reference.potential reference.denominator lifts →
    IsSolution (standing_elements (with_most ranges network) stands) lifts lift →
    IsLive standing k → IsRaisedAtMost varied reference lift k

-- and below it by at most what lifts over its potentials with their signs turned give
abbrev pub PotentialsAreLoweredAtMost : Type 0
PotentialsAreLoweredAtMost = (network : Network) (stands : Item → Bool) (ranges : Ranges) (ohm : Element → ℕ) (volts lifts : ℕ → ℤ) (reference varied lift : Solution) (k : ℕ) →
    let standing = standing_elements network stands in
    IsWithinLimits network → AreEarthed standing → HaveNoGroundVolts standing volts → AreInRanges ranges ohm standing →
    IsSolution (standing_elements (with_grounds ohm network) stands) volts reference → IsVaried standing ranges volts varied →
    AreLifts standing ranges ohm (λ m. neg_ℤ (reference.potential m)) reference.denominator lifts →
    IsSolution (standing_elements (with_most ranges network) stands) lifts lift →
    IsLive standing k → IsLoweredAtMost varied reference lift k
