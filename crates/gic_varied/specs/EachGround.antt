-- What the theorems say of the networks that have resistances of their ranges at all their grounds.
use Rattle.std.specs.Prelude.{ℕ, Bool, IsTrue}
use Rattle.std.specs.List.{AllByRecursion}
use Rattle.gic_model.specs.declared.parts.Element.{Element}
use Rattle.gic_model.specs.declared.parts.Item.{Item}
use Rattle.gic_model.specs.Earthing.{AreEarthed}
use Rattle.gic_model.specs.Limits.{IsWithinLimits}
use Rattle.gic_model.specs.Network.{Network}
use Rattle.gic_model.specs.Standing.{standing_elements}
use Rattle.gic_varied.specs.Grounds.{is_ground, with_grounds}
use Rattle.gic_varied.specs.Ranges.{Ranges, ranges_of, IsInRange, AreInRanges}

-- each ground of the network, whether it stands or not, gets a resistance of its range
abbrev pub HasGroundsInRanges : Network → Ranges → (Element → ℕ) → Type 0
HasGroundsInRanges network ranges ohm = AllByRecursion (λ e. IsTrue (is_ground e) → IsInRange (ranges e) (ohm e)) network.list

-- so do those that stand
abbrev pub StandingGroundsAreInRanges : Type 0
StandingGroundsAreInRanges = (network : Network) (stands : Item → Bool) (ranges : Ranges) (ohm : Element → ℕ) →
    HasGroundsInRanges network ranges ohm → AreInRanges ranges ohm (standing_elements network stands)

-- of a network within the limits, so is that with any grounds within tolerances
abbrev pub AnyGroundsStayWithinLimits : Type 0
AnyGroundsStayWithinLimits = (network : Network) (percent : Item → ℕ) (ohm : Element → ℕ) →
    IsWithinLimits network → HasGroundsInRanges network (ranges_of percent) ohm → IsWithinLimits (with_grounds ohm network)

-- of two networks that differ in their grounds alone, one is earthed where the other is
abbrev pub NetworksAreEarthedAlike : Type 0
NetworksAreEarthedAlike = (network : Network) (stands : Item → Bool) (one other : Element → ℕ) →
    AreEarthed (standing_elements (with_grounds one network) stands) → AreEarthed (standing_elements (with_grounds other network) stands)
