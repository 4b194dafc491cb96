-- What the mode takes memory for.
use Rattle.std.specs.Prelude.{◌≡◌}
use Rattle.gic_effective.specs.ViewLengths.{HasViewLengths}
use Rattle.gic_induce.specs.LineVolts.{volts_of}
use Rattle.gic_criteria.specs.declared.asked.Question.{Question}
use Rattle.gic_inputs.specs.declared.inputs.Inputs.{Inputs}
use Rattle.gic_net.specs.Net.{standing}
use Rattle.gic_stand.specs.Standing.{standing_of}
use Rattle.gic_uniform.specs.Ready.{IsWorkspaceForCase}
use Rattle.gic_uniform.specs.Uniform.{uniform_field}
use Rattle.gic_winding.specs.ElementList.{elements_of}
use Rattle.gic_field.specs.declared.workspace.Workspace.{Workspace}

-- it has the network with all switchings in force, the voltages of the field that is asked for, and space for each node, element and transformer
pub record IsMadeFor (inputs : Inputs Question) (workspace : Workspace) : Type 0 where
  pub network : workspace.net.network ≡ elements_of inputs.case
  pub stands : standing workspace.net ≡ standing_of inputs.case inputs.switchings
  pub volts : workspace.volts ≡ volts_of inputs.case (uniform_field inputs.case inputs.question.field.north inputs.question.field.east) (elements_of inputs.case).list
  pub view : HasViewLengths inputs.case workspace.view
  pub solving : IsWorkspaceForCase inputs.case workspace.solving
