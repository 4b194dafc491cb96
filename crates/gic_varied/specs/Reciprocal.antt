-- Reciprocity: weighted currents of varied solutions, from a solution for the weights as voltages, which circuit theory calls adjoint.
use Rattle.std.specs.Prelude.{ℕ, ◌≡◌, ◌==◌, Bool, List, IsFalse, ℤ, pos, ◌+ℤ◌, ◌-ℤ◌, ◌*ℤ◌, if◌then◌else◌}
use Rattle.gic_base.specs.declared.id.ElementId.{ElementId}
use Rattle.gic_model.specs.declared.parts.Element.{Element}
use Rattle.gic_model.specs.declared.parts.Item.{Item}
use Rattle.gic_model.specs.Network.{Network}
use Rattle.gic_model.specs.Limits.{IsWithinLimits}
use Rattle.gic_model.specs.Standing.{is_standing, standing_elements}
use Rattle.gic_model.specs.Solution.{Solution, IsSolution}
use Rattle.gic_model.specs.Sums.{Placed, sum_of}
use Rattle.gic_varied.specs.Grounds.{grounds_among, HaveNoGroundVolts, with_grounds}
use Rattle.gic_varied.specs.Ranges.{Ranges}
use Rattle.gic_varied.specs.Varied.{IsVaried}

-- the sum of the standing elements' currents, each times its own weight
abbrev pub current_by_weights : List Placed → (weights : ℕ → ℤ) → Solution → ℤ
current_by_weights standing weights s = sum_of (λ p. weights p.0 *ℤ s.current p.0) standing

-- Y C' - Z P' at a ground: Y times the part of the varied current C' that the ground's resistance in the adjoint network doesn't drive, since Ohm's law there makes Z its conductance times Y
abbrev pub stray_power : (varied adjoint : Solution) → Placed → ℤ
stray_power varied adjoint p = adjoint.potential p.1.from.0 *ℤ varied.current p.0 -ℤ adjoint.current p.0 *ℤ varied.potential p.1.from.0

-- that of all grounds together
abbrev pub all_stray_power : List Placed → (varied adjoint : Solution) → ℤ
all_stray_power standing varied adjoint = sum_of (stray_power varied adjoint) (grounds_among standing)

-- the weighted current of a varied solution is that of the adjoint solution with the voltages as weights, and the stray power, whatever resistances the adjoint network has at its grounds; all over the two denominators
abbrev pub VariedCurrentsAreReciprocal : Type 0
VariedCurrentsAreReciprocal = (network : Network) (stands : Item → Bool) (ranges : Ranges) (ohm : Element → ℕ) (volts weights : ℕ → ℤ) (varied adjoint : Solution) →
    let standing = standing_elements network stands in
    IsWithinLimits network → HaveNoGroundVolts standing volts → HaveNoGroundVolts standing weights →
    IsVaried standing ranges volts varied → IsSolution (standing_elements (with_grounds ohm network) stands) weights adjoint →
    pos adjoint.denominator *ℤ current_by_weights standing weights varied ≡
    pos varied.denominator *ℤ current_by_weights standing volts adjoint +ℤ all_stray_power standing varied adjoint

-- a solution of the adjoint network itself for the voltages has no stray power
abbrev pub CurrentsAreReciprocal : Type 0
CurrentsAreReciprocal = (network : Network) (stands : Item → Bool) (ohm : Element → ℕ) (volts weights : ℕ → ℤ) (reference adjoint : Solution) →
    let standing = standing_elements network stands in
    IsWithinLimits network → HaveNoGroundVolts standing volts → HaveNoGroundVolts standing weights →
    IsSolution (standing_elements (with_grounds ohm network) stands) volts reference →
    IsSolution (standing_elements (with_grounds ohm network) stands) weights adjoint →
    pos adjoint.denominator *ℤ current_by_weights standing weights reference ≡ pos reference.denominator *ℤ current_by_weights standing volts adjoint

-- so the varied current is the reference's, and the stray power: nothing is left out
abbrev pub VariedCurrentsAreOffByStrayPower : Type 0
VariedCurrentsAreOffByStrayPower = (network : Network) (stands : Item → Bool) (ranges : Ranges) (ohm : Element → ℕ) (volts weights : ℕ → ℤ) (reference varied adjoint : Solution) →
    let standing = standing_elements network stands in
    IsWithinLimits network → HaveNoGroundVolts standing volts → HaveNoGroundVolts standing weights →
    IsSolution (standing_elements (with_grounds ohm network) stands) volts reference →
    IsVaried standing ranges volts varied →
    IsSolution (standing_elements (with_grounds ohm network) stands) weights adjoint →
    pos adjoint.denominator *ℤ (pos reference.denominator *ℤ current_by_weights standing weights varied -ℤ pos varied.denominator *ℤ current_by_weights standing weights reference) ≡
    pos reference.denominator *ℤ all_stray_power standing varied adjoint

-- the weights of listed elements, each so many times its own number: of a transformer's windings those of its effective current
abbrev pub weights_from : (times : ℕ) → List (ElementId × ℕ) → ℕ → ℤ
weights_from times windings place = pos times *ℤ sum_of (λ w. if w.0.0 == place then pos w.1 else pos 0) windings

-- with these the weighted current of a network's solution is so many times the sum of the listed elements' currents, each times its number
abbrev pub ListedWeightsCount : Type 0
ListedWeightsCount = (network : Network) (stands : Item → Bool) (windings : List (ElementId × ℕ)) (times : ℕ) (s : Solution) →
    let standing = standing_elements network stands in
    ((place : ℕ) → IsFalse (is_standing standing place) → s.current place ≡ pos 0) →
    current_by_weights standing (weights_from times windings) s ≡ pos times *ℤ sum_of (λ w. pos w.1 *ℤ s.current w.0.0) windings
