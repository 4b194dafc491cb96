-- What the mode takes memory for.
use Rattle.std.specs.Prelude.{◌≡◌}
use Rattle.gic_criteria.specs.declared.asked.UniformField.{UniformField}
use Rattle.gic_inputs.specs.declared.inputs.Inputs.{Inputs}
use Rattle.gic_volts.specs.RightVolts.{volts_of_lines}
use Rattle.gic_volts.specs.declared.workspace.Workspace.{Workspace}

-- it has the voltage of each line in the field that is asked for
abbrev pub IsMadeFor : Inputs UniformField → Workspace → Type 0
IsMadeFor inputs workspace = workspace.nanovolts.items ≡ volts_of_lines inputs.case inputs.question.north inputs.question.east
