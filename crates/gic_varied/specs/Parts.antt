-- Parts of the ranges that hold the greatest currents: where Y' P'' at a ground has the same sign in all varied networks, one end of the ground's range does.
use Rattle.std.specs.Prelude.{ℕ, ◌≤◌, ◌<◌, Bool, List, IsTrue, ℤ, pos, ◌*ℤ◌, ◌≤ℤ◌}
use Rattle.std.specs.List.{All}
use Rattle.gic_model.specs.declared.parts.Item.{Item}
use Rattle.gic_model.specs.Earthing.{AreEarthed}
use Rattle.gic_model.specs.Limits.{IsWithinLimits}
use Rattle.gic_model.specs.Network.{Network}
use Rattle.gic_model.specs.Solution.{Solution}
use Rattle.gic_model.specs.Standing.{standing_elements}
use Rattle.gic_model.specs.Sums.{Placed}
use Rattle.gic_varied.specs.Grounds.{is_ground, HaveNoGroundVolts}
use Rattle.gic_varied.specs.Ranges.{Range, Ranges, AreInRanges}
use Rattle.gic_varied.specs.Reciprocal.{current_by_weights}
use Rattle.gic_varied.specs.Varied.{IsVaried}

-- Y' P'' at a ground's node isn't below 0, for each varied adjoint solution and each varied solution, be they of two networks
abbrev pub NeverBelow0 : List Placed → Ranges → (volts weights : ℕ → ℤ) → Placed → Type 0
NeverBelow0 standing ranges volts weights p = (varied adjoint : Solution) → IsVaried standing ranges volts varied → IsVaried standing ranges weights adjoint →
    pos 0 ≤ℤ (adjoint.potential p.1.from.0 *ℤ varied.potential p.1.from.0)

-- nor above
abbrev pub NeverAbove0 : List Placed → Ranges → (volts weights : ℕ → ℤ) → Placed → Type 0
NeverAbove0 standing ranges volts weights p = (varied adjoint : Solution) → IsVaried standing ranges volts varied → IsVaried standing ranges weights adjoint →
    (adjoint.potential p.1.from.0 *ℤ varied.potential p.1.from.0) ≤ℤ pos 0

-- a part of a range, in which its greatest resistances are left out only where the first holds, and its least ones only where the second does
pub record IsPartOf (range part : Range) (no_greatest no_least : Type 0) : Type 0 where
  pub order : part.least ≤ part.most
  pub at_least : range.least ≤ part.least
  pub at_most : part.most ≤ range.most
  pub greatest_left_out : part.most < range.most → no_greatest
  pub least_left_out : range.least < part.least → no_least

-- parts for the greatest current: a ground loses its greatest resistances where Y' P'' is never below 0, and its least ones where that is never above 0
abbrev pub AreRaisingParts : List Placed → (ranges parts : Ranges) → (volts weights : ℕ → ℤ) → Type 0
AreRaisingParts standing ranges parts volts weights =
    All (λ p. IsTrue (is_ground p.1) → IsPartOf (ranges p.1) (parts p.1) (NeverBelow0 standing ranges volts weights p) (NeverAbove0 standing ranges volts weights p)) standing

-- parts for the least current, the other way round
abbrev pub AreLoweringParts : List Placed → (ranges parts : Ranges) → (volts weights : ℕ → ℤ) → Type 0
AreLoweringParts standing ranges parts volts weights =
    All (λ p. IsTrue (is_ground p.1) → IsPartOf (ranges p.1) (parts p.1) (NeverAbove0 standing ranges volts weights p) (NeverBelow0 standing ranges volts weights p)) standing

-- a varied solution of the parts whose weighted current is at least that of this one
pub record HasAtLeast (standing : List Placed) (parts : Ranges) (volts weights : ℕ → ℤ) (varied : Solution) : Type 0 where
  pub other : Solution
  pub varies : IsVaried standing parts volts other
  pub order : (pos other.denominator *ℤ current_by_weights standing weights varied) ≤ℤ (pos varied.denominator *ℤ current_by_weights standing weights other)

-- one whose weighted current is at most that
pub record HasAtMost (standing : List Placed) (parts : Ranges) (volts weights : ℕ → ℤ) (varied : Solution) : Type 0 where
  pub other : Solution
  pub varies : IsVaried standing parts volts other
  pub order : (pos varied.denominator *ℤ current_by_weights standing weights other) ≤ℤ (pos other.denominator *ℤ current_by_weights standing weights varied)

-- so what is at least the weighted current of all varied solutions of such parts is at least that of all varied solutions
abbrev pub RaisingPartsHaveTheGreatest : Type 0
RaisingPartsHaveTheGreatest = (network : Network) (stands : Item → Bool) (ranges parts : Ranges) (volts weights : ℕ → ℤ) (varied : Solution) →
    let standing = standing_elements network stands in
    IsWithinLimits network → AreEarthed standing → HaveNoGroundVolts standing volts → HaveNoGroundVolts standing weights →
    AreInRanges ranges (λ e. (ranges e).least) standing → AreRaisingParts standing ranges parts volts weights →
    IsVaried standing ranges volts varied → HasAtLeast standing parts volts weights varied

-- and what is at most that of those of the other parts is at most that of all
abbrev pub LoweringPartsHaveTheLeast : Type 0
LoweringPartsHaveTheLeast = (network : Network) (stands : Item → Bool) (ranges parts : Ranges) (volts weights : ℕ → ℤ) (varied : Solution) →
    let standing = standing_elements network stands in
    IsWithinLimits network → AreEarthed standing → HaveNoGroundVolts standing volts → HaveNoGroundVolts standing weights →
    AreInRanges ranges (λ e. (ranges e).least) standing → AreLoweringParts standing ranges parts volts weights →
    IsVaried standing ranges volts varied → HasAtMost standing parts volts weights varied
