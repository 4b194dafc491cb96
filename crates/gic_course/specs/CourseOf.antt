-- When a course is that of the inputs.
use Rattle.gic_switch.specs.Epochs.{AreEpochs}
use Rattle.gic_inputs.specs.Inputs.{rows_in, IsStormOf}
use Rattle.gic_stand.specs.Needs.{Solved, IsMet}
use Rattle.gic_inputs.specs.declared.inputs.StormInputs.{StormInputs}
use Rattle.gic_course.specs.declared.course.Course.{Course}
use Rattle.gic_course.specs.WorkspaceFor.{IsWorkspaceForCourse}
use Rattle.gic_course.specs.Ready.{IsSwitchedFor, IsReady}
use Rattle.gic_course.specs.Steps.{storm_steps}

-- its epochs are the storm's under the switchings, its net and its workspace are the case's, and what it has ready for an epoch is ready for each of its steps
pub record IsCourseOf (inputs : StormInputs) (course : Course) : Type 0 where
  pub storm : IsStormOf inputs
  pub epochs : AreEpochs inputs.storm.rows (rows_in inputs.switchings) course.epochs.items
  pub switched : IsSwitchedFor inputs course.switched
  pub space : IsWorkspaceForCourse inputs.case course.workspace
  pub ready : IsReady inputs course.ready course.switched.net course.workspace

-- it is, and the network can be solved at each step
pub record CanShow (inputs : StormInputs) (course : Course) : Type 0 where
  pub own : IsCourseOf inputs course
  pub solvable : IsMet Solved (storm_steps inputs)
