-- What the verdicts on peaks say, whatever solution is taken of each step.
use Rattle.std.specs.Prelude.{◌≡◌, ℕ, ◌+◌, ◌-◌, ◌<◌, length}
use Rattle.gic_case.specs.Lists.{Lists}
use Rattle.gic_model.specs.Solution.{Solution}
use Rattle.gic_view.specs.View.{View, effective_at}
use Rattle.gic_winding.specs.Weights.{transformer_at}
use Rattle.gic_criteria.specs.declared.criterion.Verdict.{Verdict}
use Rattle.gic_criteria.specs.declared.criterion.Verdict.TheVariants.{Below, Reaches, Undecided}
use Rattle.gic_effective.specs.Threshold.{IsAtLeast, IsUnder}
use Rattle.gic_report.specs.VerdictText.{IsAcross, verdict_in}
use Rattle.gic_inputs.specs.declared.inputs.StormInputs.{StormInputs}
use Rattle.gic_course.specs.Steps.{IsStepOf}
use Rattle.gic_study_mode.specs.PeakEnclosure.{AreStepSolutions}

-- there is a step of the storm at which the transformer's absolute effective current is the threshold or more
pub record IsAtLeastOnce (inputs : StormInputs) (threshold t : ℕ) (solutions : ℕ → Solution) : Type 0 where
  pub step : ℕ
  pub own : IsStepOf inputs step
  pub at_least : IsAtLeast inputs.case threshold t (solutions step)

-- the verdict on the peak of a transformer, which is an absolute interval
abbrev pub peak_verdict : Lists → (threshold : ℕ) → (peaks : View) → (t : ℕ) → Verdict
peak_verdict case threshold peaks t = verdict_in threshold (transformer_at case t) (effective_at peaks t)

-- a transformer is told to be below a threshold only where it is at every step, to reach it only where it does at one, and undecided only where its peak lies across it
pub record AreTruePeakVerdicts (inputs : StormInputs) (threshold : ℕ) (peaks : View) : Type 0 where
  pub below : (t : ℕ) → t < length inputs.case.transformers → peak_verdict inputs.case threshold peaks t ≡ Below →
      (solutions : ℕ → Solution) → AreStepSolutions inputs solutions → (number : ℕ) → IsStepOf inputs number → IsUnder inputs.case threshold t (solutions number)
  pub reaches : (t : ℕ) → t < length inputs.case.transformers → peak_verdict inputs.case threshold peaks t ≡ Reaches →
      (solutions : ℕ → Solution) → AreStepSolutions inputs solutions → IsAtLeastOnce inputs threshold t solutions
  pub undecided : (t : ℕ) → t < length inputs.case.transformers → peak_verdict inputs.case threshold peaks t ≡ Undecided →
      IsAcross threshold (effective_at peaks t)

-- a transformer is told undecided only where its greatest absolute effective current is within one width of the threshold: at a step not under it less the width, and at every step under it with the width added
abbrev pub AreUndecidedNear : (inputs : StormInputs) (width threshold : ℕ) (peaks : View) → Type 0
AreUndecidedNear inputs width threshold peaks = (t : ℕ) → t < length inputs.case.transformers → peak_verdict inputs.case threshold peaks t ≡ Undecided →
    (solutions : ℕ → Solution) → AreStepSolutions inputs solutions →
    IsAtLeastOnce inputs (threshold - width) t solutions × ((number : ℕ) → IsStepOf inputs number → IsUnder inputs.case (threshold + width) t (solutions number))
