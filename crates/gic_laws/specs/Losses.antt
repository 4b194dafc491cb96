-- What the lines of losses of a study say of the exact currents of its steps.
use Rattle.std.specs.Prelude.{◌≡◌, ℕ, suc, ◌<◌, pos, ◌-ℤ◌, ◌*ℤ◌, List, length, Option, Some, codes}
use Rattle.gic_fixed.specs.Ends.{IsAtMostWide}
use Rattle.gic_text.specs.Lines.{line_text}
use Rattle.gic_case.specs.Lists.{Lists}
use Rattle.gic_case.specs.Sound.{IsSound}
use Rattle.gic_model.specs.Solution.{Solution, IsSolution}
use Rattle.gic_view.specs.View.{View}
use Rattle.gic_effective.specs.Weighted.{effective_numerator, effective_denominator}
use Rattle.gic_monitor.specs.RosterView.{RosterView}
use Rattle.gic_monitor.specs.LossBounds.{Currents, numerator_at, ShowsUnits, total_width, IsTotalAtMost, IsTotalUnder, IsTotalAtLeast}
use Rattle.gic_monitor.specs.LossText.{Total, loss_line, volt_factors, volt_text, table_factors, table_text}
use Rattle.gic_monitor.specs.declared.loss.table_loss.NamedFactor.{NamedFactor}
use Rattle.gic_inputs.specs.declared.inputs.StormInputs.{StormInputs}
use Rattle.gic_course.specs.Steps.{IsStepOf, standing_at_step, storm_volts}
use Rattle.gic_course.specs.Views.{view_at}
use Rattle.gic_study_mode.specs.PeakEnclosure.{AreStepSolutions}
use Rattle.gic_study_mode.specs.RightStudy.{IsRightStudy}
use Rattle.gic_study_mode.specs.Roster.{roster_of}
use Rattle.gic_laws.specs.Printed.{width_asked}

-- these are the transformers' signed effective currents in a solution, in mA per phase: as fractions over their one denominator they are those over each transformer's own
pub record AreEffectiveCurrents (case : Lists) (s : Solution) (currents : Currents) : Type 0 where
  pub above_zero : 0 < currents.denominator
  pub equal : (t : ℕ) → t < length case.transformers →
      numerator_at currents t *ℤ pos (effective_denominator case t s) ≡ effective_numerator case s t *ℤ pos currents.denominator

-- there are such currents
abbrev pub CurrentsExist : Type 0
CurrentsExist = (case : Lists) (s : Solution) → IsSound case → 0 < s.denominator → (currents : Currents) × AreEffectiveCurrents case s currents

-- whatever solves the network of a step, the step's view in a right study shows these currents as `losses_are_bounded_law` asks
abbrev pub StudiesShowUnits : Type 0
StudiesShowUnits = (inputs : StormInputs) (detail : Option ℕ) (plans : RosterView → List View → List (List ℕ)) (text : List ℕ) → IsSound inputs.case →
    (study : IsRightStudy inputs detail plans text) → (place : ℕ) → place < length study.views →
    (s : Solution) → IsSolution (standing_at_step inputs (suc place)) (storm_volts inputs (suc place)) s →
    (currents : Currents) → AreEffectiveCurrents inputs.case s currents →
    ShowsUnits (length inputs.case.transformers) (view_at study.views place) currents

-- these are the currents of the transformers at each step of a storm, by a solution of each
abbrev pub AreCurrentsOfSteps : StormInputs → (solutions : ℕ → Solution) → (currents : ℕ → Currents) → Type 0
AreCurrentsOfSteps inputs solutions currents = (number : ℕ) → IsStepOf inputs number → AreEffectiveCurrents inputs.case (solutions number) (currents number)

-- the text is a line with this word, the two ends of a total, and the number of a step. The exact total of factor times absolute current is at most the high end at every step, under it at each step before the one that is named, and at that one less by at most the sum of factor times width; at one step it is at least the low end. The ends lie apart by at most that sum
pub record IsTrueLoss (inputs : StormInputs) (word : List ℕ) (factors : List ℕ) (currents : ℕ → Currents) (text : List ℕ) : Type 0 where
  pub total : Total
  pub text_is : text ≡ line_text (loss_line word (Some total))
  pub most : (number : ℕ) → IsStepOf inputs number → IsTotalAtMost factors total.high (currents number)
  pub named : IsStepOf inputs total.number
  pub before : (number : ℕ) → IsStepOf inputs number → number < total.number → IsTotalUnder factors total.high (currents number)
  pub near : IsTotalAtLeast factors (total.high -ℤ pos (total_width (width_asked inputs) factors)) (currents total.number)
  pub least : (number : ℕ) × IsStepOf inputs number × IsTotalAtLeast factors total.low (currents number)
  pub narrow : IsAtMostWide (total_width (width_asked inputs) factors) total.low total.high

-- the text is such a line, whatever solves the network of each step
abbrev pub IsTrueLossOfSteps : StormInputs → (word : List ℕ) → (factors : List ℕ) → (text : List ℕ) → Type 0
IsTrueLossOfSteps inputs word factors text = (solutions : ℕ → Solution) → AreStepSolutions inputs solutions →
    (currents : ℕ → Currents) → AreCurrentsOfSteps inputs solutions currents → IsTrueLoss inputs word factors currents text

-- what monitors of losses print of the views behind a study: by volts with a scale, and by a table
pub record AreTrueLosses (inputs : StormInputs) (views : List View) : Type 0 where
  pub by_volts : (scale : ℕ) → let roster = roster_of inputs.case inputs.question.event in
      IsTrueLossOfSteps inputs (codes "loss") (volt_factors scale roster) (volt_text scale roster views)
  pub by_table : (table : List NamedFactor) → let roster = roster_of inputs.case inputs.question.event in
      IsTrueLossOfSteps inputs (codes "table") (table_factors table roster) (table_text table roster views)

-- it is true of every right study of a sound case whose storm has a step
abbrev pub LossesAreTrue : Type 0
LossesAreTrue = (inputs : StormInputs) (detail : Option ℕ) (plans : RosterView → List View → List (List ℕ)) (text : List ℕ) → IsSound inputs.case →
    IsStepOf inputs 1 → (study : IsRightStudy inputs detail plans text) → AreTrueLosses inputs study.views
