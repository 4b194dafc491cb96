use Rattle.std.proofs.Common.{List, sym, subst}
use Rattle.gic_model.specs.Sums.{Placed}
use Rattle.gic_net.specs.Net.{NetView, standing}
use Rattle.gic_stand.specs.Needs.{Solved, Fails}
use Rattle.gic_stand.specs.Standing.{IsSolvable}
use Rattle.gic_course.specs.Steps.{standing_at_step}
use Rattle.gic_course.proofs.KeptReady.{refused}
use Rattle.gic_course.proofs.StepsStand.{first_step}
use Rattle.gic_course.proofs.walking.expect_epoch.Goals as goal

pub returns-then-not-changed-clause-solvable : goal.returns-then-not-changed-clause-solvable
returns-then-not-changed-clause-solvable c = λ number has.
    subst IsSolvable (c.put_in_force-changed.ensures.stands number has)
    (subst (λ (n : NetView). IsSolvable (standing n)) (sym (c.put_in_force-changed.ensures.same c.if-not-changed.true)) (c.requires.seen c.if-seen.true))

pub returns-in_err-look-clause-err : goal.returns-in_err-look-clause-err
returns-in_err-look-clause-err c =
    let inputs = c.args.inputs.now in
    let e = c.args.epoch in
    let refusal = c.in_err-look.field-0.0 in
    let stands = c.put_in_force-changed.ensures.stands e.first (first_step inputs e c.requires.epoch) in
    refused c.from_residual.result refusal (Fails Solved inputs.case e.first (standing_at_step inputs e.first)) c.from_residual.ensures.1
    (subst (λ (s : List Placed). Fails Solved inputs.case e.first s refusal) stands c.in_err-look.ensures.err)

pub returns-clause-solvable : goal.returns-clause-solvable
returns-clause-solvable c = λ number has. subst IsSolvable (c.put_in_force-changed.ensures.stands number has) c.in_ok-look.ensures.ready.solvable
