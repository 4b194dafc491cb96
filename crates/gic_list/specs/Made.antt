-- What the mode takes memory for.
use Rattle.std.specs.Prelude.{◌≡◌}
use Rattle.gic_inputs.specs.declared.inputs.Inputs.{Inputs}
use Rattle.gic_winding.specs.ElementList.{elements_of}
use Rattle.gic_list.specs.declared.workspace.Workspace.{Workspace}

-- it has the elements of the case
abbrev pub IsMadeFor : Inputs (Unit {0}) → Workspace → Type 0
IsMadeFor inputs workspace = workspace.elements ≡ elements_of inputs.case
