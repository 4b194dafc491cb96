-- What follows of a right study.
use Rattle.std.specs.Prelude.{◌≡◌, ℕ, ◌≤◌, List, length, Option, Ok}
use Rattle.gic_case.specs.Sound.{IsSound}
use Rattle.gic_storm.specs.Rules.{storm_of}
use Rattle.gic_storm.specs.Steps.{steps_in}
use Rattle.gic_storm.specs.StormView.{StormView}
use Rattle.gic_view.specs.View.{View}
use Rattle.gic_effective.specs.Narrow.{IsNarrowView}
use Rattle.gic_criteria.specs.Event.{threshold_of}
use Rattle.gic_model.specs.Solution.{Solution}
use Rattle.gic_monitor.specs.RosterView.{RosterView}
use Rattle.gic_inputs.specs.declared.inputs.StormInputs.{StormInputs}
use Rattle.gic_course.specs.Steps.{IsStepOf}
use Rattle.gic_study_mode.specs.RightStudy.{IsRightStudy}
use Rattle.gic_study_mode.specs.PeakEnclosure.{AreStepSolutions, AreEnclosing}
use Rattle.gic_study_mode.specs.PeakVerdicts.{AreTruePeakVerdicts, AreUndecidedNear}

-- every accepted storm has a step
abbrev pub AcceptedStormsHaveSteps : Type 0
AcceptedStormsHaveSteps = (zones : List (List ℕ)) (bytes : List ℕ) (storm : StormView) → storm_of zones bytes ≡ Ok storm → 1 ≤ length (steps_in storm.rows)

-- this holds of the peaks of every right study of a storm that has a step
abbrev pub HoldsOfPeaks : (Holds : StormInputs → (peaks : View) → Type 0) → Type 0
HoldsOfPeaks Holds = (inputs : StormInputs) (detail : Option ℕ) (plans : RosterView → List View → List (List ℕ)) (text : List ℕ) → IsStepOf inputs 1 →
    (report : IsRightStudy inputs detail plans text) → Holds inputs report.peaks

-- none of them is wider than asked
abbrev pub PeaksAreNarrow : Type 0
PeaksAreNarrow = HoldsOfPeaks (λ inputs peaks. IsNarrowView inputs.case inputs.question.width peaks)

-- whatever solves the network of each step, each of them encloses the greatest absolute value over the steps
abbrev pub PeaksEnclose : Type 0
PeaksEnclose = HoldsOfPeaks (λ inputs peaks. (solutions : ℕ → Solution) → AreStepSolutions inputs solutions → AreEnclosing inputs peaks solutions)

-- in a sound case the verdicts on them, by the threshold of the event that is asked for, are true
abbrev pub PeakVerdictsAreTrue : Type 0
PeakVerdictsAreTrue = HoldsOfPeaks (λ inputs peaks. IsSound inputs.case → AreTruePeakVerdicts inputs (threshold_of inputs.question.event) peaks)

-- and `undecided` is said only within one width of that threshold
abbrev pub UndecidedPeaksAreNear : Type 0
UndecidedPeaksAreNear = HoldsOfPeaks (λ inputs peaks. IsSound inputs.case → AreUndecidedNear inputs inputs.question.width (threshold_of inputs.question.event) peaks)
