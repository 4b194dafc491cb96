-- What the mode takes memory for.
use Rattle.std.specs.Prelude.{◌≡◌, length}
use Rattle.gic_inputs.specs.declared.inputs.Inputs.{Inputs}
use Rattle.gic_net.specs.Net.{standing}
use Rattle.gic_stand.specs.Standing.{standing_of}
use Rattle.gic_winding.specs.ElementList.{elements_of}
use Rattle.gic_check.specs.declared.workspace.Workspace.{Workspace}

-- it has the network with all switchings in force, and space for each of its nodes
pub record IsMadeFor (inputs : Inputs (Unit {0})) (workspace : Workspace) : Type 0 where
  pub network : workspace.net.network ≡ elements_of inputs.case
  pub stands : standing workspace.net ≡ standing_of inputs.case inputs.switchings
  pub scratch : workspace.scratch.nodes ≡ (elements_of inputs.case).nodes
  pub live : length workspace.live.items ≡ (elements_of inputs.case).nodes
