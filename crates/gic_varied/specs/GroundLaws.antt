-- What the theorems say of networks with other grounds: their limits, chains to earth and bound vectors.
use Rattle.std.specs.Prelude.{ℕ, ◌≤◌, ◌<◌, Bool, IsTrue}
use Rattle.std.specs.List.{AllByRecursion}
use Rattle.gic_model.specs.declared.parts.Element.{Element}
use Rattle.gic_model.specs.declared.parts.Item.{Item}
use Rattle.gic_model.specs.Bound.{IsBoundVector, IsEarthedWithin}
use Rattle.gic_model.specs.Earthing.{AreEarthed}
use Rattle.gic_model.specs.Limits.{IsWithinLimits}
use Rattle.gic_model.specs.Network.{Network}
use Rattle.gic_model.specs.Standing.{standing_elements}
use Rattle.gic_varied.specs.Grounds.{is_ground, with_grounds}
use Rattle.gic_varied.specs.Ranges.{ranges_of}
use Rattle.gic_varied.specs.Lifts.{with_least, with_most}

-- a network with other grounds is earthed where the network is
abbrev pub OtherGroundsEarthToo : Type 0
OtherGroundsEarthToo = (network : Network) (stands : Item → Bool) (ohm : Element → ℕ) →
    AreEarthed (standing_elements network stands) → AreEarthed (standing_elements (with_grounds ohm network) stands)

-- no ground of the one network has a greater resistance than in the other, and each has one above 0
abbrev pub AreLesser : Network → (lesser greater : Element → ℕ) → Type 0
AreLesser network lesser greater = AllByRecursion (λ e. IsTrue (is_ground e) → (0 < lesser e) × (lesser e ≤ greater e)) network.list

-- a bound vector of a network is one of the network with lesser grounds
abbrev pub BoundVectorsServeLesserGrounds : Type 0
BoundVectorsServeLesserGrounds = (network : Network) (stands : Item → Bool) (lesser greater : Element → ℕ) (v : ℕ → ℕ) →
    AreLesser network lesser greater →
    IsBoundVector (standing_elements (with_grounds greater network) stands) v → IsBoundVector (standing_elements (with_grounds lesser network) stands) v

-- so that is earthed within as little
abbrev pub LesserGroundsEarthWithin : Type 0
LesserGroundsEarthWithin = (network : Network) (stands : Item → Bool) (lesser greater : Element → ℕ) (most : ℕ) →
    AreLesser network lesser greater →
    IsEarthedWithin (standing_elements (with_grounds greater network) stands) most → IsEarthedWithin (standing_elements (with_grounds lesser network) stands) most

-- of a network within the limits, so are those with its grounds at the least and at the greatest resistances of tolerances
abbrev pub RangesStayWithinLimits : Type 0
RangesStayWithinLimits = (network : Network) (percent : Item → ℕ) → IsWithinLimits network →
    IsWithinLimits (with_least (ranges_of percent) network) × IsWithinLimits (with_most (ranges_of percent) network)
