-- Reciprocity with the two networks in each other's place: a varied weighted current from the reference's own potentials and the varied network's adjoint potentials.
use Rattle.std.specs.Prelude.{ℕ, ◌≡◌, ◌*◌, ◌<◌, Bool, List, ℤ, pos, ◌-ℤ◌, ◌*ℤ◌}
use Rattle.gic_fixed.specs.Encloses.{Encloses}
use Rattle.gic_fixed.specs.Ends.{Ends}
use Rattle.gic_model.specs.declared.parts.Element.{Element}
use Rattle.gic_model.specs.declared.parts.Item.{Item}
use Rattle.gic_model.specs.Earthing.{AreEarthed}
use Rattle.gic_model.specs.Limits.{IsWithinLimits}
use Rattle.gic_model.specs.Network.{Network}
use Rattle.gic_model.specs.Solution.{Solution, IsSolution}
use Rattle.gic_model.specs.Standing.{standing_elements}
use Rattle.gic_model.specs.Sums.{Placed}
use Rattle.gic_varied.specs.Enclosure.{enclosure_of, HoldProducts}
use Rattle.gic_varied.specs.Grounds.{HaveNoGroundVolts, with_grounds}
use Rattle.gic_varied.specs.OneNetwork.{AreOfOneNetwork}
use Rattle.gic_varied.specs.Ranges.{Ranges, AreInRanges}
use Rattle.gic_varied.specs.Reciprocal.{current_by_weights, all_stray_power}
use Rattle.gic_varied.specs.Varied.{IsVaried}

-- the weighted current of a varied solution less that of a reference is P (Z' - g Y') of all grounds, which is d P Y': P is the reference's potential and g the conductance of its ground, Y' and Z' are those of the adjoint solution of the varied network, and d is what the varied conductance is above g
abbrev pub VariedCurrentsAreOffByAdjointPower : Type 0
VariedCurrentsAreOffByAdjointPower = (network : Network) (stands : Item → Bool) (ranges : Ranges) (ohm : Element → ℕ) (volts weights : ℕ → ℤ) (reference varied adjoint : Solution) →
    let standing = standing_elements network stands in
    IsWithinLimits network → HaveNoGroundVolts standing volts → HaveNoGroundVolts standing weights →
    IsSolution (standing_elements (with_grounds ohm network) stands) volts reference →
    IsVaried standing ranges volts varied → IsVaried standing ranges weights adjoint → AreOfOneNetwork standing ranges varied adjoint →
    pos adjoint.denominator *ℤ (pos reference.denominator *ℤ current_by_weights standing weights varied -ℤ pos varied.denominator *ℤ current_by_weights standing weights reference) ≡
    pos varied.denominator *ℤ all_stray_power standing adjoint reference

-- for every varied adjoint solution, the product's interval at each ground holds P Y' in units of `over`
abbrev pub HoldAdjointProducts : List Placed → Ranges → (weights : ℕ → ℤ) → (over : ℕ) → (products : Placed → Ends) → (reference : Solution) → Type 0
HoldAdjointProducts standing ranges weights over products reference = (adjoint : Solution) → IsVaried standing ranges weights adjoint → HoldProducts standing over products adjoint reference

-- where they do, and the own interval holds the reference's weighted current in units of `unit * over`, the enclosure that they make holds that of every varied solution
abbrev pub AdjointEnclosuresHold : Type 0
AdjointEnclosuresHold = (network : Network) (stands : Item → Bool) (ranges : Ranges) (ohm : Element → ℕ) (volts weights : ℕ → ℤ) (reference varied : Solution)
    (over unit : ℕ) (products : Placed → Ends) (own : Ends) →
    let standing = standing_elements network stands in
    IsWithinLimits network → AreEarthed standing → HaveNoGroundVolts standing volts → HaveNoGroundVolts standing weights →
    AreInRanges ranges (λ e. (ranges e).least) standing → AreInRanges ranges ohm standing → 0 < unit →
    IsSolution (standing_elements (with_grounds ohm network) stands) volts reference → IsVaried standing ranges volts varied →
    HoldAdjointProducts standing ranges weights over products reference →
    Encloses own.low own.high (current_by_weights standing weights reference) (unit * over * reference.denominator) →
    let enclosure = enclosure_of standing ranges ohm unit products own in
    Encloses enclosure.low enclosure.high (current_by_weights standing weights varied) (unit * over * varied.denominator)
