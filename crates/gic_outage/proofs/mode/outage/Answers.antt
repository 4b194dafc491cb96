use Rattle.std.proofs.Common.{◌≡◌, ◌∙◌, List, length, ap, subst, sym}
use Rattle.gic_model.specs.Sums.{Placed}
use Rattle.gic_stand.specs.Needs.{Solved, Fails}
use Rattle.gic_stand.specs.Serves.{shown}
use Rattle.gic_stand.specs.Standing.{IsSolvable, standing_of, steps_of}
use Rattle.gic_stand.proofs.Served.{served, met_once, unserved_network}
use Rattle.gic_outage.specs.declared.outcome.OutageOutcome.{OutageOutcome}
use Rattle.gic_outage.specs.Plan.{plan_of}
use Rattle.gic_outage.specs.RightOutage.{IsRightOutage}
use Rattle.gic_outage.specs.Taking.{HasTaken}
use Rattle.gic_outage.proofs.RightOutages.{right_outages}
use Rattle.gic_outage.proofs.mode.outage.Goals as goal

pub returns : goal.returns
returns g c =
    let inputs = c.args.inputs.now in
    let taken = c.take_items.new.workspace in
    let outcomes = c.deref.result.now in
    let same : outcomes ≡ taken.outcomes.items = c.deref.ensures.value in
    served Solved inputs.case (steps_of inputs) (IsRightOutage inputs) _ _ _ c.write_report-writing.result c.ended.result
    (met_once Solved (standing_of inputs.case inputs.switchings) (subst (λ (s : List Placed). IsSolvable s) c.requires.workspace.given.stands c.in_ok-expect_solvable.ensures.ready.solvable))
    (right_outages inputs outcomes taken.greatest (ap length same ∙ c.take_items.ensures.outcomes)
    (subst (λ (xs : List OutageOutcome). HasTaken inputs (length (plan_of inputs.case)) xs taken.greatest) (sym same) c.take_items.ensures.taken))
    c.write_report-writing.ensures.all c.write_report-writing.ensures.part c.write_report-writing.ensures.cause c.ended.ensures

pub returns-in_err-expect_solvable : goal.returns-in_err-expect_solvable
returns-in_err-expect_solvable g c =
    let inputs = c.args.inputs.now in
    let refusal = c.in_err-expect_solvable.field-0.0 in
    unserved_network Solved inputs.case (standing_of inputs.case inputs.switchings) (IsRightOutage inputs) (shown g.S.Sink.written g.S.Sink.faults c.args.out.now) refusal
    c.from_residual.result c.from_residual.ensures.1
    (subst (λ (s : List Placed). Fails Solved inputs.case 1 s refusal) c.requires.workspace.given.stands c.in_err-expect_solvable.ensures.err)
