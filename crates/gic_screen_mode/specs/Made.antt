-- What the mode takes memory for.
use Rattle.std.specs.Prelude.{◌≡◌}
use Rattle.gic_criteria.specs.declared.asked.Criteria.{Criteria}
use Rattle.gic_inputs.specs.declared.inputs.Inputs.{Inputs}
use Rattle.gic_net.specs.Net.{standing}
use Rattle.gic_worst.specs.Screening.{AreOfEvent, IsScreenWorkspaceFor}
use Rattle.gic_stand.specs.Standing.{standing_of}
use Rattle.gic_winding.specs.ElementList.{elements_of}
use Rattle.gic_screen_mode.specs.declared.workspace.Workspace.{Workspace}

-- it has the network with all switchings in force, the voltages of the event that is asked for, and space for each node, element and transformer
pub record IsMadeFor (inputs : Inputs Criteria) (workspace : Workspace) : Type 0 where
  pub network : workspace.net.network ≡ elements_of inputs.case
  pub stands : standing workspace.net ≡ standing_of inputs.case inputs.switchings
  pub volts : AreOfEvent inputs.case inputs.question.event workspace.volts
  pub screening : IsScreenWorkspaceFor inputs.case workspace.screening
