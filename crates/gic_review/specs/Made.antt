-- What the mode takes memory for.
use Rattle.gic_review.specs.Findings.{AreFindingsOf}
use Rattle.gic_inputs.specs.declared.inputs.Inputs.{Inputs}
use Rattle.gic_review.specs.declared.workspace.Workspace.{Workspace}

-- it has what is found in the case
abbrev pub IsMadeFor : Inputs (Unit {0}) → Workspace → Type 0
IsMadeFor inputs workspace = AreFindingsOf inputs.case workspace.findings.items
