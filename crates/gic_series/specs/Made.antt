-- What a series makes before it looks at any step.
use Rattle.std.specs.Prelude.{◌≡◌, length}
use Rattle.gic_storm.specs.Steps.{steps_in}
use Rattle.gic_inputs.specs.declared.inputs.StormInputs.{StormInputs}
use Rattle.gic_course.specs.CourseOf.{IsCourseOf}
use Rattle.gic_series.specs.declared.workspace.Workspace.{Workspace}

-- the course is that of the storm, and there is a row for each step
pub record IsMadeFor (inputs : StormInputs) (workspace : Workspace) : Type 0 where
  pub course : IsCourseOf inputs workspace.course
  pub one_each : length workspace.rows ≡ length (steps_in inputs.storm.rows)
