-- What the mode takes memory for. For the contracts of this crate.
use Rattle.std.specs.Prelude.{◌≡◌, length, replicate, None}
use Rattle.gic_criteria.specs.declared.asked.Criteria.{Criteria}
use Rattle.gic_inputs.specs.declared.inputs.Inputs.{Inputs}
use Rattle.gic_winding.specs.ElementList.{elements_of}
use Rattle.gic_outage.specs.Plan.{plan_of}
use Rattle.gic_worst.specs.Screening.{IsScreenWorkspaceFor}
use Rattle.gic_outage.specs.Taking.{AreGiven}
use Rattle.gic_outage.specs.declared.workspace.Workspace.{Workspace}

-- it has the network and the voltages that are given, and space for each node, element and transformer of the case, and for each item of its plan; no interval has been raised
pub record IsMadeFor (inputs : Inputs Criteria) (workspace : Workspace) : Type 0 where
  pub given : AreGiven inputs workspace.net workspace.volts
  pub screening : IsScreenWorkspaceFor inputs.case workspace.screening
  pub intact : length workspace.intact ≡ (elements_of inputs.case).nodes
  pub plan : workspace.plan.items ≡ plan_of inputs.case
  pub outcomes : length workspace.outcomes.items ≡ length (plan_of inputs.case)
  pub greatest : workspace.greatest ≡ replicate (length inputs.case.transformers) None
