-- The verdicts on peaks are true of every choice of solutions.
use Rattle.std.proofs.Common.{ℕ, ◌+◌, ◌-◌, ◌<◌, length, ℤ, pos, ◌<ℤ◌, ◌≤ℤ◌, unsigned_abs, arith}
use Rattle.std.proofs.lemmas.Int.{ints}
use Rattle.gic_fixed.specs.Ends.{Ends, IsAtMostWide}
use Rattle.gic_case.specs.Sound.{IsSound}
use Rattle.gic_model.specs.Solution.{Solution}
use Rattle.gic_view.specs.View.{View, effective_at}
use Rattle.gic_winding.specs.Weights.{transformer_at}
use Rattle.gic_effective.specs.Narrow.{IsNarrowView}
use Rattle.gic_effective.specs.Weighted.{effective_numerator, effective_denominator}
use Rattle.gic_criteria.proofs.Judged.{under_end}
use Rattle.gic_criteria.specs.VerdictLaws.{BelowIsUnder, ReachesIsAtLeast, UndecidedIsAcross}
use Rattle.gic_case.specs.Lists.{has_effect}
use Rattle.gic_monitor.proofs.CountsBound.{at_least}
use Rattle.gic_uniform.proofs.Denominators.{some_denominator}
use Rattle.gic_inputs.specs.declared.inputs.StormInputs.{StormInputs}
use Rattle.gic_study_mode.specs.PeakEnclosure.{AreStepSolutions, AreEnclosing}
use Rattle.gic_study_mode.specs.PeakVerdicts.{AreTruePeakVerdicts, AreUndecidedNear}

pub true_verdicts : BelowIsUnder → ReachesIsAtLeast → UndecidedIsAcross → (inputs : StormInputs) (threshold : ℕ) (peaks : View) → IsSound inputs.case
    → ((solutions : ℕ → Solution) → AreStepSolutions inputs solutions → AreEnclosing inputs peaks solutions)
    → AreTruePeakVerdicts inputs threshold peaks
true_verdicts below reaches undecided inputs threshold peaks sound enclosing =
    let case = inputs.case in
    let shown : ℕ → Ends = λ t. effective_at peaks t in
    let row = transformer_at case in
    record {
      below = λ t within verdict solutions solve number step.
          below (shown t).low (shown t).high (effective_numerator case (solutions number) t) (effective_denominator case t (solutions number)) threshold (row t).high_volts (has_effect (row t).kind)
          (some_denominator case t (solutions number) sound within (solve number step).denominator_above_0) verdict
          (((enclosing solutions solve).transformers t within).most number step tt);
      reaches = λ t within verdict solutions solve.
          let peak = (enclosing solutions solve).transformers t within in
          record {
            step = peak.step;
            own = peak.own;
            at_least = reaches (shown t).low (shown t).high (effective_numerator case (solutions peak.step) t) (effective_denominator case t (solutions peak.step)) threshold (row t).high_volts (has_effect (row t).kind)
                verdict peak.least;
          };
      undecided = λ t within verdict. undecided (shown t).low (shown t).high threshold (row t).high_volts (has_effect (row t).kind) verdict;
    }

-- a peak across a threshold that is no wider than this begins and ends within one width of it
begins_near : (lo hi : ℤ) (threshold width : ℕ) → pos 0 ≤ℤ lo → pos threshold ≤ℤ hi → IsAtMostWide width lo hi → pos (threshold - width) ≤ℤ lo
begins_near lo hi threshold width sign across narrow = omega (arith, ints, sign, across, narrow)

ends_near : (lo hi : ℤ) (threshold width : ℕ) → lo <ℤ pos threshold → IsAtMostWide width lo hi → hi <ℤ pos (threshold + width)
ends_near lo hi threshold width across narrow = omega (arith, ints, across, narrow)

pub undecided_near : UndecidedIsAcross → (inputs : StormInputs) (width threshold : ℕ) (peaks : View) → IsSound inputs.case
    → ((solutions : ℕ → Solution) → AreStepSolutions inputs solutions → AreEnclosing inputs peaks solutions)
    → IsNarrowView inputs.case width peaks → ((t : ℕ) → t < length inputs.case.transformers → pos 0 ≤ℤ (effective_at peaks t).low)
    → AreUndecidedNear inputs width threshold peaks
undecided_near undecided inputs width threshold peaks sound enclosing narrow sign t within said solutions solve =
    let case = inputs.case in
    let e = effective_at peaks t in
    let row = transformer_at case t in
    let across = undecided e.low e.high threshold row.high_volts (has_effect row.kind) said in
    let peak = (enclosing solutions solve).transformers t within in (
      record {
        step = peak.step;
        own = peak.own;
        at_least = at_least e.low (unsigned_abs (effective_numerator case (solutions peak.step) t)) (effective_denominator case t (solutions peak.step)) (threshold - width)
            (begins_near e.low e.high threshold width (sign t within) across.1 (narrow.effective t within)) peak.least;
      },
      λ number step. under_end e.high (unsigned_abs (effective_numerator case (solutions number) t)) (effective_denominator case t (solutions number)) (threshold + width)
          (some_denominator case t (solutions number) sound within (solve number step).denominator_above_0)
          (ends_near e.low e.high threshold width across.0 (narrow.effective t within)) (peak.most number step tt),
    )
