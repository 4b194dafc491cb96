-- What monitors print of the views behind a right study.
use Rattle.std.specs.Prelude.{◌≡◌, ℕ, ◌<◌, List, [], length, Option, slice_index_or}
use Rattle.gic_text.specs.Lines.{lines_text}
use Rattle.gic_case.specs.Sound.{IsSound}
use Rattle.gic_model.specs.Solution.{Solution}
use Rattle.gic_view.specs.View.{View}
use Rattle.gic_monitor.specs.RosterView.{RosterView}
use Rattle.gic_inputs.specs.declared.inputs.StormInputs.{StormInputs}
use Rattle.gic_study_mode.specs.PeakEnclosure.{AreStepSolutions}
use Rattle.gic_study_mode.specs.RightStudy.{IsRightStudy}
use Rattle.gic_study_mode.specs.Roster.{roster_of}

-- the width that is asked for, in mA
abbrev pub width_asked : StormInputs → ℕ
width_asked inputs = inputs.question.width

-- the text has this many lines, and each of them is true of its place
pub record HasTrueLines (count : ℕ) (IsTrueOf : ℕ → List (List ℕ) → Type 0) (text : List ℕ) : Type 0 where
  pub lines : List (List (List ℕ))
  pub text_is : text ≡ lines_text lines
  pub one_each : length lines ≡ count
  pub each : (place : ℕ) → place < count → IsTrueOf place (slice_index_or lines place [])

-- what a monitor of this plan prints of the views behind a right study of a sound case is true, whatever solves the network of each step
abbrev pub PrintsTrue : (plan : RosterView → List View → List ℕ) → (IsTrueText : StormInputs → (solutions : ℕ → Solution) → List ℕ → Type 0) → Type 0
PrintsTrue plan IsTrueText = (inputs : StormInputs) (detail : Option ℕ) (plans : RosterView → List View → List (List ℕ)) (text : List ℕ) → IsSound inputs.case →
    (study : IsRightStudy inputs detail plans text) → (solutions : ℕ → Solution) → AreStepSolutions inputs solutions →
    IsTrueText inputs solutions (plan (roster_of inputs.case inputs.question.event) study.views)
