-- Varied solutions of one network, for voltages of their own: at each ground one resistance of its range, whole or not, has Ohm's law in all of them.
use Rattle.std.specs.Prelude.{ℕ, ◌*◌, Bool, List, IsTrue, ℤ, pos, ◌*ℤ◌}
use Rattle.std.specs.List.{All}
use Rattle.gic_model.specs.declared.parts.Item.{Item}
use Rattle.gic_model.specs.Earthing.{AreEarthed}
use Rattle.gic_model.specs.Limits.{IsWithinLimits}
use Rattle.gic_model.specs.Network.{Network}
use Rattle.gic_model.specs.Solution.{Solution}
use Rattle.gic_model.specs.Standing.{standing_elements}
use Rattle.gic_model.specs.Sums.{Placed}
use Rattle.gic_varied.specs.Grounds.{is_ground, HaveNoGroundVolts}
use Rattle.gic_varied.specs.Ranges.{Range, Ranges, AreInRanges}
use Rattle.gic_varied.specs.Varied.{IsVaried, IsFractionOf, IsOhmOf}

-- what drives the current of a ground: times 10^6 P of its node
abbrev pub ground_drive_of : Solution → Placed → ℤ
ground_drive_of s p = pos (p.1.times * 1000000) *ℤ s.potential p.1.from.0

-- one resistance of the range has Ohm's law at a ground in both
pub record ShareResistance (range : Range) (one other : Solution) (p : Placed) : Type 0 where
  pub numerator : ℕ
  pub denominator : ℕ
  pub inside : IsFractionOf range numerator denominator
  pub in_one : IsOhmOf numerator denominator (ground_drive_of one p) (one.current p.0)
  pub in_other : IsOhmOf numerator denominator (ground_drive_of other p) (other.current p.0)

-- so it is at each ground
abbrev pub AreOfOneNetwork : List Placed → Ranges → (one other : Solution) → Type 0
AreOfOneNetwork standing ranges one other = All (λ p. IsTrue (is_ground p.1) → ShareResistance (ranges p.1) one other p) standing

-- a varied solution of the network of another one, for these voltages
pub record HasVariedSolution (standing : List Placed) (ranges : Ranges) (volts : ℕ → ℤ) (one : Solution) : Type 0 where
  pub solution : Solution
  pub varies : IsVaried standing ranges volts solution
  pub of_one_network : AreOfOneNetwork standing ranges one solution

-- where each live node is earthed, the network of a varied solution has one for any other voltages too
abbrev pub VariedNetworksAreSolved : Type 0
VariedNetworksAreSolved = (network : Network) (stands : Item → Bool) (ranges : Ranges) (volts others : ℕ → ℤ) (one : Solution) →
    let standing = standing_elements network stands in
    IsWithinLimits network → AreEarthed standing → AreInRanges ranges (λ e. (ranges e).least) standing →
    HaveNoGroundVolts standing others → IsVaried standing ranges volts one → HasVariedSolution standing ranges others one
