-- What a report of a study has to say.
use Rattle.std.specs.Prelude.{◌≡◌, ℕ, ◌-◌, List, length, Option, option_map}
use Rattle.gic_storm.specs.Steps.{steps_in}
use Rattle.gic_view.specs.View.{View}
use Rattle.gic_criteria.specs.Event.{threshold_of}
use Rattle.gic_view.specs.Peaks.{IsPeaksOf}
use Rattle.gic_monitor.specs.RosterView.{RosterView}
use Rattle.gic_inputs.specs.declared.inputs.StormInputs.{StormInputs}
use Rattle.gic_course.specs.Steps.{storm_fields}
use Rattle.gic_course.specs.Views.{AreRightViews, AreNarrowViews, AreSmallViews, view_at}
use Rattle.gic_study_text.specs.StudyText.{DetailView, study_text}
use Rattle.gic_study_mode.specs.Asked.{asked_step}
use Rattle.gic_study_mode.specs.Roster.{roster_of}

-- a step in detail: its fields, and its view among those of all steps
abbrev pub detail_at : StormInputs → List View → (number : ℕ) → DetailView
detail_at inputs views number = record { fields = storm_fields inputs number; view = view_at views (number - 1) }

-- the step that is asked for, where the storm has it
abbrev pub detail_of : StormInputs → (detail : Option ℕ) → List View → Option DetailView
detail_of inputs detail views = option_map (detail_at inputs views) (asked_step inputs detail)

-- the text of a report of these views and of these peaks, with the texts that monitors plan for the roster of the case and these views
abbrev pub report_text : StormInputs → (detail : Option ℕ) → (plans : RosterView → List View → List (List ℕ)) → List View → (peaks : View) → List ℕ
report_text inputs detail plans views peaks =
    study_text inputs.case inputs.question.width (threshold_of inputs.question.event) (length (steps_in inputs.storm.rows))
    (detail_of inputs detail views) peaks (plans (roster_of inputs.case inputs.question.event) views)

-- one list of views is behind the whole text, right for the steps in order; no interval of them is wider than asked, no effective current is beyond 2^52 mA per phase, and the peaks of the text are those of these views
pub record IsRightStudy (inputs : StormInputs) (detail : Option ℕ) (plans : RosterView → List View → List (List ℕ)) (text : List ℕ) : Type 0 where
  pub views : List View
  pub right : AreRightViews inputs views
  pub narrow : AreNarrowViews inputs.case inputs.question.width views
  pub small : AreSmallViews inputs.case views
  pub peaks : View
  pub peaks_are : IsPeaksOf views peaks
  pub text_is : text ≡ report_text inputs detail plans views peaks
