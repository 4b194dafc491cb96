use Rattle.std.proofs.Common.{◌+◌, ◌≤◌, length, drop, subst, arith}
use Rattle.std.proofs.lemmas.List.{drop_all}
use Rattle.gic_stand.specs.Needs.{Solved, IsUnmet}
use Rattle.gic_course.specs.Steps.{storm_steps}
use Rattle.gic_course.proofs.Walked.{Walked, walked_at, next_epoch, walk_goes_on, walk_ends, walk_stops}
use Rattle.gic_course.proofs.KeptReady.{refused}
use Rattle.gic_course.proofs.walking.expect_epochs.Goals as goal

pub expect_epoch-requires-clause-epoch : goal.expect_epoch-requires-clause-epoch
expect_epoch-requires-clause-epoch c =
    let i = c.loop-place.place in
    next_epoch c.args.inputs.now _ (drop (i + 1) c.args.epochs.now)
    (walked_at c.args.inputs.now c.args.epochs.now i _ c.loop-place-test.true c.loop-place.invariant.walked)

pub returns-in_err-expect_epoch-clause-unmet : goal.returns-in_err-expect_epoch-clause-unmet
returns-in_err-expect_epoch-clause-unmet c =
    let inputs = c.args.inputs.now in
    let i = c.loop-place.place in
    refused c.from_residual.result c.in_err-expect_epoch.field-0.0 (IsUnmet Solved inputs.case (storm_steps inputs)) c.from_residual.ensures.1
    (walk_stops inputs _ (drop (i + 1) c.args.epochs.now) c.in_err-expect_epoch.field-0.0
    (walked_at inputs c.args.epochs.now i _ c.loop-place-test.true c.loop-place.invariant.walked) c.in_err-expect_epoch.ensures.err)

pub loop-place-preserved : goal.loop-place-preserved
loop-place-preserved c =
    let inputs = c.args.inputs.now in
    let i = c.loop-place.place in
    record {
      walked = walk_goes_on inputs _ (drop (i + 1) c.args.epochs.now)
          (walked_at inputs c.args.epochs.now i _ c.loop-place-test.true c.loop-place.invariant.walked) c.in_ok-expect_epoch.ensures.solvable;
      seen = λ some. c.in_ok-expect_epoch.ensures.net;
      walks = c.expect_epoch.ensures.walks;
    }

pub returns-clause-met : goal.returns-clause-met
returns-clause-met c =
    let inputs = c.args.inputs.now in
    let i = c.loop-place.place in
    let end : length c.args.epochs.now ≤ i = omega (arith, c.loop-place-test.false, c.loop-place.auto.place-end) in
    walk_ends inputs (subst (Walked inputs) (drop_all i c.args.epochs.now end) c.loop-place.invariant.walked)
