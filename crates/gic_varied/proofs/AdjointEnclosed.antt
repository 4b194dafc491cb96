-- The enclosure of the adjoint form holds the weighted current of every varied solution, since its network has an adjoint solution.
use Rattle.std.proofs.Common.{◌≡◌, ℕ, ◌*◌, ◌<◌, true, ℤ, pos, ◌*ℤ◌, arith}
use Rattle.std.proofs.lemmas.List.Elements.{recursion_from_All}
use Rattle.std.specs.Prelude.{Bool, List}
use Rattle.gic_fixed.specs.Encloses.{Encloses}
use Rattle.gic_fixed.specs.Ends.{Ends}
use Rattle.gic_fixed.proofs.Divisions.{positive_product}
use Rattle.gic_model.specs.declared.parts.Element.{Element}
use Rattle.gic_model.specs.declared.parts.Item.{Item}
use Rattle.gic_model.specs.Earthing.{AreEarthed}
use Rattle.gic_model.specs.Limits.{IsWithinLimits}
use Rattle.gic_model.specs.Network.{Network}
use Rattle.gic_model.specs.Solution.{Solution}
use Rattle.gic_model.specs.Standing.{standing_elements}
use Rattle.gic_model.specs.Sums.{Placed}
use Rattle.gic_model.proofs.Ends.{standing_within}
use Rattle.gic_varied.specs.AdjointForm.{HoldAdjointProducts}
use Rattle.gic_varied.specs.Enclosure.{enclosure_of}
use Rattle.gic_varied.specs.Grounds.{is_ground, HaveNoGroundVolts}
use Rattle.gic_varied.specs.OneNetwork.{HasVariedSolution}
use Rattle.gic_varied.specs.Ranges.{Ranges, AreInRanges}
use Rattle.gic_varied.specs.Reciprocal.{current_by_weights, all_stray_power}
use Rattle.gic_varied.specs.Varied.{IsVaried, IsGroundWithin}
use Rattle.gic_varied.proofs.Enclosed.{made_of_two, moved, strays_held}
use Rattle.gic_varied.proofs.Fractions.{other_solution}
use Rattle.gic_varied.proofs.Reciprocity.{solution_keeps}
use Rattle.gic_varied.proofs.Regrounded.{SolvesWith}
use Rattle.gic_varied.proofs.Shared.{off_by_adjoint_power}

pub adjoint_enclosed : (network : Network) (stands : Item → Bool) (ranges : Ranges) (ohm : Element → ℕ) (volts weights : ℕ → ℤ) (reference varied : Solution) (over unit : ℕ) (products : Placed → Ends) (own : Ends) →
    IsWithinLimits network → AreEarthed (standing_elements network stands) → HaveNoGroundVolts (standing_elements network stands) volts → HaveNoGroundVolts (standing_elements network stands) weights →
    AreInRanges ranges (λ e. (ranges e).least) (standing_elements network stands) → AreInRanges ranges ohm (standing_elements network stands) → 0 < unit →
    SolvesWith (standing_elements network stands) ohm volts reference → IsVaried (standing_elements network stands) ranges volts varied →
    HoldAdjointProducts (standing_elements network stands) ranges weights over products reference →
    Encloses own.low own.high (current_by_weights (standing_elements network stands) weights reference) (unit * over * reference.denominator) →
    Encloses (enclosure_of (standing_elements network stands) ranges ohm unit products own).low (enclosure_of (standing_elements network stands) ranges ohm unit products own).high
    (current_by_weights (standing_elements network stands) weights varied) (unit * over * varied.denominator)
adjoint_enclosed network stands ranges ohm volts weights reference varied over unit products own limits earthed quiet light least_inside inside some_unit refers varies holds own_holds =
    by (other_solution network stands ranges limits earthed least_inside volts weights varied light varies)
  where
    standing : List Placed
    standing = standing_elements network stands

    by : HasVariedSolution standing ranges weights varied →
        Encloses (enclosure_of standing ranges ohm unit products own).low (enclosure_of standing ranges ohm unit products own).high (current_by_weights standing weights varied) (unit * over * varied.denominator)
    by h =
        let adjoint = h.solution in
        let within = standing_within network stands limits in
        made_of_two (adjoint.denominator * reference.denominator) (adjoint.denominator * varied.denominator) varied.denominator
        (unit * over * varied.denominator) (unit * over * reference.denominator) (unit * over * (reference.denominator * adjoint.denominator))
        (current_by_weights standing weights varied) (current_by_weights standing weights reference) (all_stray_power standing adjoint reference) own.low own.high _ _
        (positive_product adjoint.denominator reference.denominator h.varies.denominator_above_0 refers.denominator_above_0)
        (moved adjoint.denominator reference.denominator varied.denominator (current_by_weights standing weights varied) (current_by_weights standing weights reference)
        (pos varied.denominator *ℤ all_stray_power standing adjoint reference)
        (off_by_adjoint_power network.nodes standing within ranges volts weights reference varied adjoint quiet light (solution_keeps standing ohm volts reference refers) varies h.varies h.of_one_network))
        (omega arith) (omega arith) own_holds
        (strays_held network.nodes standing within ranges ohm volts adjoint reference over unit products quiet inside some_unit
        (recursion_from_All (λ p. is_ground p.1 ≡ true → IsGroundWithin ranges adjoint p) standing h.varies.grounds) refers (holds adjoint h.varies))
