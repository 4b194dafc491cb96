-- The weighted current of a varied solution is in the reference enclosure: its potentials and its stray powers are the ones that this asks for.
use Rattle.std.proofs.Common.{◌≡◌, ℕ, ◌*◌, true, ℤ, pos, neg_ℤ, ◌*ℤ◌, arith, List, [], ◌∷◌}
use Rattle.std.specs.List.{AllByRecursion}
use Rattle.std.proofs.lemmas.List.Elements.{recursion_from_All, All-from_recursion}
use Rattle.gic_model.specs.declared.parts.Element.{Element}
use Rattle.gic_model.specs.Earthing.{AreEarthed}
use Rattle.gic_model.specs.Limits.{IsElementWithin}
use Rattle.gic_model.specs.Solution.{Solution, IsOhm}
use Rattle.gic_model.specs.Sums.{Placed}
use Rattle.gic_model.proofs.Ends.{some_times}
use Rattle.gic_varied.specs.Exact.{IsInReferenceEnclosure}
use Rattle.gic_varied.specs.Grounds.{is_ground, HaveNoGroundVolts}
use Rattle.gic_varied.specs.Lifts.{AreLifts}
use Rattle.gic_varied.specs.Ranges.{Ranges, IsInRange, AreInRanges}
use Rattle.gic_varied.specs.Reciprocal.{current_by_weights, stray_power, all_stray_power}
use Rattle.gic_varied.specs.Strays.{IsStrayWithin}
use Rattle.gic_varied.specs.Varied.{IsVaried, IsGroundWithin}
use Rattle.gic_varied.proofs.Lifted.{raised, lowered}
use Rattle.gic_varied.proofs.Reciprocity.{reciprocal, reciprocal_alone, varied_keeps, off_by}
use Rattle.gic_varied.proofs.Regrounded.{placed_with, SolvesWith}
use Rattle.gic_varied.proofs.Strays.{stray_between}
use Rattle.gic_varied.proofs.Within.{ground_drive}

module _ (nodes : ℕ) (standing : List Placed) (within : AllByRecursion (λ p. IsElementWithin nodes p.1) standing) (earthed : AreEarthed standing)
    (ranges : Ranges) (volts weights lower raise : ℕ → ℤ) (reference varied lowering raising adjoint : Solution)
    (quiet : HaveNoGroundVolts standing volts) (light : HaveNoGroundVolts standing weights) (inside : AreInRanges ranges (λ e. (ranges e).least) standing)
    (refers : SolvesWith standing (λ e. (ranges e).least) volts reference) (varies : IsVaried standing ranges volts varied)
    (lowers : AreLifts standing ranges (λ e. (ranges e).least) (λ m. neg_ℤ (reference.potential m)) reference.denominator lower)
    (raises : AreLifts standing ranges (λ e. (ranges e).least) reference.potential reference.denominator raise)
    (lowering_solves : SolvesWith standing (λ e. (ranges e).most) lower lowering) (raising_solves : SolvesWith standing (λ e. (ranges e).most) raise raising)
    (adjoins : SolvesWith standing (λ e. (ranges e).least) weights adjoint) where
  abbrev least : Element → ℕ
  least e = (ranges e).least

  abbrev Part : Placed → Type 0
  Part p = is_ground p.1 ≡ true →
      IsStrayWithin (ranges p.1) (p.1.times * 1000000) (ranges p.1).least (adjoint.potential p.1.from.0 *ℤ varied.potential p.1.from.0) (stray_power varied adjoint p)

  gather : (ps : List Placed) → AllByRecursion (λ p. IsElementWithin nodes p.1) ps → AllByRecursion (λ p. is_ground p.1 ≡ true → weights p.0 ≡ pos 0) ps →
      AllByRecursion (λ p. is_ground p.1 ≡ true → IsInRange (ranges p.1) (ranges p.1).least) ps → AllByRecursion (λ p. is_ground p.1 ≡ true → IsGroundWithin ranges varied p) ps →
      AllByRecursion (λ p. IsOhm weights adjoint (placed_with least p)) ps → AllByRecursion Part ps
  gather [] a b c d e = tt
  gather (p ∷ ps) a b c d e = (
    λ ground. let some = some_times nodes p a.0 in
        stray_between (ranges p.1) (p.1.times * 1000000) (ranges p.1).least (varied.current p.0) (varied.potential p.1.from.0) (adjoint.potential p.1.from.0) (adjoint.current p.0)
        (omega arith) (c.0 ground) (ground_drive least weights adjoint p ground (b.0 ground) e.0) (d.0 ground),
    gather ps a.1 b.1 c.1 d.1 e.1,
  )

  pub is_in : IsInReferenceEnclosure standing ranges weights reference lowering raising adjoint (current_by_weights standing weights varied) varied.denominator
  is_in = record {
    potential = varied.potential;
    part = stray_power varied adjoint;
    lowest = lowered nodes standing within earthed ranges least volts lower reference varied lowering inside quiet refers varies lowers lowering_solves;
    highest = raised nodes standing within earthed ranges least volts raise reference varied raising inside quiet refers varies raises raising_solves;
    parts = All-from_recursion Part standing
        (gather standing within (recursion_from_All (λ p. is_ground p.1 ≡ true → weights p.0 ≡ pos 0) standing light)
        (recursion_from_All (λ p. is_ground p.1 ≡ true → IsInRange (ranges p.1) (ranges p.1).least) standing inside)
        (recursion_from_All (λ p. is_ground p.1 ≡ true → IsGroundWithin ranges varied p) standing varies.grounds) adjoins.by_ohm);
    sum = off_by (pos adjoint.denominator) (pos reference.denominator) (pos varied.denominator) (current_by_weights standing weights varied) (current_by_weights standing weights reference)
        (current_by_weights standing volts adjoint) (all_stray_power standing varied adjoint)
        (reciprocal nodes standing within least volts weights varied adjoint quiet light (varied_keeps standing ranges volts varied varies) adjoins)
        (reciprocal_alone nodes standing within least volts weights reference adjoint quiet light refers adjoins);
  }
