-- What a study makes before it looks at any step.
use Rattle.std.specs.Prelude.{◌≡◌, ℕ, [], Option, option_map}
use Rattle.gic_view.specs.Peaks.{IsPeaksOf}
use Rattle.gic_inputs.specs.declared.inputs.StormInputs.{StormInputs}
use Rattle.gic_course.specs.CourseOf.{IsCourseOf}
use Rattle.gic_course.specs.Steps.{storm_fields}
use Rattle.gic_study_mode.specs.declared.workspace.StepsWorkspace.{StepsWorkspace}
use Rattle.gic_study_mode.specs.Asked.{asked_step}
use Rattle.gic_study_mode.specs.Roster.{roster_of}
use Rattle.gic_study_mode.specs.Seen.{IsSpaceForViews}

-- the course is that of the storm, the fields are those of the asked step, the roster is the case's, and no view was seen
pub record IsMadeFor (inputs : StormInputs) (detail : Option ℕ) (workspace : StepsWorkspace) : Type 0 where
  pub course : IsCourseOf inputs workspace.course
  pub fields : workspace.fields ≡ option_map (storm_fields inputs) (asked_step inputs detail)
  pub roster : workspace.roster ≡ roster_of inputs.case inputs.question.event
  pub views : IsSpaceForViews inputs.case workspace.views
  pub of_none : IsPeaksOf [] workspace.views.peaks
