-- What the mode takes memory for.
use Rattle.std.specs.Prelude.{◌≡◌, length}
use Rattle.gic_criteria.specs.declared.asked.RobustCriteria.{RobustCriteria}
use Rattle.gic_inputs.specs.declared.inputs.Inputs.{Inputs}
use Rattle.gic_worst.specs.Screening.{AreOfEvent}
use Rattle.gic_grounds.specs.Tolerated.{AreNetsOf}
use Rattle.gic_grounds.specs.Varied.{IsVariedWorkspaceFor}
use Rattle.gic_robust.specs.declared.workspace.Workspace.{Workspace}
use Rattle.gic_robust.specs.Steps.{tolerated_of}

-- it has the nets with the grounds at both ends of their ranges and all switchings in force, the voltages of the event that is asked for, and space for each node, element and transformer
pub record IsMadeFor (inputs : Inputs RobustCriteria) (workspace : Workspace) : Type 0 where
  pub space : IsVariedWorkspaceFor inputs.case workspace.varied
  pub nets : AreNetsOf (tolerated_of inputs) workspace.varied.nets
  pub volts : AreOfEvent inputs.case inputs.question.criteria.event workspace.volts
  pub row_count : length workspace.rows ≡ length inputs.case.transformers
