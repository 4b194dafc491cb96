-- What is ready for a step. For the contracts of this crate.
use Rattle.std.specs.Prelude.{ℕ, ◌≡◌, ⊤, Option, None, Some, slice_index}
use Rattle.gic_base.specs.declared.limits.TheConstants.{MOST_WALK}
use Rattle.gic_bound.specs.Entries.{IsBoundWithin}
use Rattle.gic_case.specs.Lists.{Lists}
use Rattle.gic_net.specs.Net.{NetView, standing}
use Rattle.gic_winding.specs.ElementList.{elements_of}
use Rattle.gic_inputs.specs.Inputs.{rows_in, IsStormOf}
use Rattle.gic_stand.specs.Standing.{IsSolvable}
use Rattle.gic_inputs.specs.declared.inputs.StormInputs.{StormInputs}
use Rattle.gic_course.specs.declared.ready.Ready.{Ready}
use Rattle.gic_course.specs.declared.ready.Way.{Way}
use Rattle.gic_course.specs.declared.ready.Way.TheVariants.{Solve, Superpose}
use Rattle.gic_course.specs.declared.workspace.Workspace.{Workspace}
use Rattle.gic_course.specs.declared.switched.SwitchedNet.{SwitchedNet}
use Rattle.gic_course.specs.Epochs.{HasStep}
use Rattle.gic_course.specs.WorkspaceFor.{IsWorkspaceForCourse, IsCertifiedFor}
use Rattle.gic_course.specs.Steps.{IsStepOf, standing_at_step}
use Rattle.gic_course.specs.Switched.{StandsThrough}

-- the net is the case's, with the first rows of its switchings in force
pub record IsSwitchedFor (inputs : StormInputs) (now : SwitchedNet) : Type 0 where
  pub network : now.net.network ≡ elements_of inputs.case
  pub stands : StandsThrough (rows_in inputs.switchings) now

-- the epochs of the storm can be walked over: the net is the case's, with the first rows of its switchings in force, and the workspace is for the case
pub record CanWalk (inputs : StormInputs) (now : SwitchedNet) (workspace : Workspace) : Type 0 where
  pub switched : IsSwitchedFor inputs now
  pub space : IsWorkspaceForCourse inputs.case workspace

-- what this way of showing steps takes is there: a bound vector of the net, and for superposing certified base fields too
abbrev pub IsSettledBy : Way → Lists → NetView → Workspace → Type 0
IsSettledBy Solve case net workspace = IsBoundWithin (standing net) MOST_WALK (slice_index workspace.solve_workspace.vector)
IsSettledBy Superpose case net workspace = IsCertifiedFor case net workspace

-- a step can be shown this way: the net is the case's and can be solved, and what the way takes is there
pub record CanShowBy (way : Way) (case : Lists) (net : NetView) (workspace : Workspace) : Type 0 where
  pub network : net.network ≡ elements_of case
  pub solvable : IsSolvable (standing net)
  pub space : IsWorkspaceForCourse case workspace
  pub settled : IsSettledBy way case net workspace

-- the net is that of a step, and what this way of showing it takes is there
pub record IsReadyAt (inputs : StormInputs) (number : ℕ) (way : Way) (net : NetView) (workspace : Workspace) : Type 0 where
  pub storm : IsStormOf inputs
  pub step : IsStepOf inputs number
  pub network : net.network ≡ elements_of inputs.case
  pub stands : standing net ≡ standing_at_step inputs number
  pub space : IsWorkspaceForCourse inputs.case workspace
  pub settled : IsSettledBy way inputs.case net workspace

-- the net is that of each step of the epoch, and what its way takes is there
pub record IsReadyInEpoch (inputs : StormInputs) (ready : Ready) (net : NetView) (workspace : Workspace) : Type 0 where
  pub steps : (number : ℕ) → HasStep number ready.epoch → IsStepOf inputs number × (standing net ≡ standing_at_step inputs number)
  pub settled : IsSettledBy ready.way inputs.case net workspace

-- what is said to be ready is
abbrev pub IsReady : StormInputs → Option Ready → NetView → Workspace → Type 0
IsReady inputs None net workspace = ⊤
IsReady inputs (Some ready) net workspace = IsReadyInEpoch inputs ready net workspace

-- the step is one of what is ready, and this is how it is shown
pub record IsShownBy (number : ℕ) (way : Way) (ready : Ready) : Type 0 where
  pub step : HasStep number ready.epoch
  pub way_is : ready.way ≡ way
