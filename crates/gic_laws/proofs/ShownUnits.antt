-- The views of a right study show the exact currents of its steps.
use Rattle.std.proofs.Common.{◌≡◌, ℕ, suc, ◌<◌, ◌^◌, List, length, Option, ℤ, pos, ◌*ℤ◌, ap, ◌∙◌, arith}
use lib.IntN.{*ℤ_comm}
use Rattle.std.proofs.lemmas.List.Elements.{All-get_or}
use Rattle.gic_fixed.specs.Encloses.{Encloses, IsWithin}
use Rattle.gic_fixed.proofs.Enclosures.{≤ℤ-times}
use Rattle.gic_fixed.proofs.Integers.{linear, *ℤ_assoc, ≤ℤ-from_*ℤ}
use Rattle.gic_case.specs.Sound.{IsSound}
use Rattle.gic_model.specs.Solution.{Solution, IsSolution}
use Rattle.gic_view.specs.View.{View, effective_at}
use Rattle.gic_view.specs.Kept.{blank_view}
use Rattle.gic_effective.specs.Weighted.{effective_numerator, effective_denominator}
use Rattle.gic_uniform.proofs.Denominators.{some_denominator}
use Rattle.gic_monitor.specs.RosterView.{RosterView}
use Rattle.gic_monitor.specs.LossText.{most_counted_current}
use Rattle.gic_monitor.specs.LossBounds.{Currents, numerator_at, ShowsUnits}
use Rattle.gic_inputs.specs.declared.inputs.StormInputs.{StormInputs}
use Rattle.gic_course.specs.Steps.{standing_at_step, storm_volts}
use Rattle.gic_course.specs.Views.{view_at}
use Rattle.gic_uniform.specs.Solving.{IsSmallView}
use Rattle.gic_study_mode.specs.RightStudy.{IsRightStudy}
use Rattle.gic_laws.specs.Losses.{AreEffectiveCurrents}

-- what encloses a fraction encloses it over another denominator
equal_enclosed : (lo hi n q : ℤ) (d m : ℕ) → 0 < d → n *ℤ pos d ≡ q *ℤ pos m → Encloses lo hi q d → Encloses lo hi n m
equal_enclosed lo hi n q d m some same e =
    let low = ≤ℤ-times (lo *ℤ pos d) q m e.above_lo in
    let high = ≤ℤ-times q (hi *ℤ pos d) m e.below_hi in
    let low_turned : (lo *ℤ pos d) *ℤ pos m ≡ pos d *ℤ (lo *ℤ pos m) = ap (λ z. z *ℤ pos m) (*ℤ_comm lo (pos d)) ∙ *ℤ_assoc (pos d) lo (pos m) in
    let high_turned : (hi *ℤ pos d) *ℤ pos m ≡ pos d *ℤ (hi *ℤ pos m) = ap (λ z. z *ℤ pos m) (*ℤ_comm hi (pos d)) ∙ *ℤ_assoc (pos d) hi (pos m) in
    let turned : n *ℤ pos d ≡ pos d *ℤ n = *ℤ_comm n (pos d) in
    record {
      above_lo = ≤ℤ-from_*ℤ d (lo *ℤ pos m) n some (omega (arith, linear, low, low_turned, turned, same));
      below_hi = ≤ℤ-from_*ℤ d n (hi *ℤ pos m) some (omega (arith, linear, high, high_turned, turned, same));
    }

wider : (lo hi : ℤ) → IsWithin (2 ^ 52) lo hi → IsWithin most_counted_current lo hi
wider lo hi small = record { low = omega (arith, small.low); high = omega (arith, small.high) }

pub shown_units : (inputs : StormInputs) (detail : Option ℕ) (plans : RosterView → List View → List (List ℕ)) (text : List ℕ) → IsSound inputs.case
    → (study : IsRightStudy inputs detail plans text) (place : ℕ) → place < length study.views
    → (s : Solution) → IsSolution (standing_at_step inputs (suc place)) (storm_volts inputs (suc place)) s
    → (currents : Currents) → AreEffectiveCurrents inputs.case s currents → ShowsUnits (length inputs.case.transformers) (view_at study.views place) currents
shown_units inputs detail plans text sound study place within s solves currents own =
    let case = inputs.case in
    let view = view_at study.views place in
    let step = study.right.right place within in
    let small : IsSmallView case view = All-get_or (IsSmallView case) study.views place (blank_view 0 0 0) within study.small in
    record {
      above_zero = own.above_zero;
      encloses = λ t inside.
          equal_enclosed (effective_at view t).low (effective_at view t).high (numerator_at currents t) (effective_numerator case s t) (effective_denominator case t s) currents.denominator
          (some_denominator case t s sound inside solves.denominator_above_0) (own.equal t inside) ((step.right.effective t inside).holds s solves);
      within = λ t inside. wider (effective_at view t).low (effective_at view t).high (small t inside);
    }
