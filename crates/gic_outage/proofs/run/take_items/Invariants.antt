use Rattle.std.proofs.Common.{◌≡◌, length}
use Rattle.gic_worst.specs.Screening.{IsScreenWorkspaceFor}
use Rattle.gic_outage.specs.Plan.{plan_of}
use Rattle.gic_outage.specs.Taking.{HasTaken}
use Rattle.gic_outage.proofs.run.take_items.Given as goal

-- the items so far were taken out, and the net is as it was
abbrev pub invariant-loop-place : goal.invariant-loop-place
invariant-loop-place l = record {
  taken : HasTaken l.inputs l.place l.workspace.outcomes.items l.workspace.greatest;
  rest : l.workspace ≡ record l.fn.workspace { screening = l.workspace.screening; outcomes = l.workspace.outcomes; greatest = l.workspace.greatest };
  screening : IsScreenWorkspaceFor l.inputs.case l.workspace.screening;
  outcomes : length l.workspace.outcomes.items ≡ length (plan_of l.inputs.case);
}
