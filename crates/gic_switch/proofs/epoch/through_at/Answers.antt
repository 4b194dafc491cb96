use Rattle.std.proofs.Common.{◌≤◌, length, arith}
use Rattle.gic_model.specs.Standing.{rows_in_force}
use Rattle.gic_switch.proofs.InForce.{within_rows, above_now, most_before}
use Rattle.gic_switch.proofs.epoch.through_at.Goals as goal

pub returns-then-time-rows : goal.returns-then-time-rows
returns-then-time-rows c =
    let most = most_before c.args.time c.args.rows.now c.loop-place.place _ c.requires.sound.ordered c.loop-place-test.true c.if-time-rows.true in
    let least : c.loop-place.place ≤ length (rows_in_force c.args.time c.args.rows.now) = c.loop-place.invariant in
    omega arith

pub loop-place-preserved : goal.loop-place-preserved
loop-place-preserved c =
    let above = above_now c.args.time c.args.rows.now c.loop-place.place _ c.requires.sound.ordered c.loop-place-test.true c.if-time-rows.false in
    omega (arith, above)

pub returns : goal.returns
returns c =
    let most = within_rows c.args.time c.args.rows.now in
    let least : c.loop-place.place ≤ length (rows_in_force c.args.time c.args.rows.now) = c.loop-place.invariant in
    omega arith
