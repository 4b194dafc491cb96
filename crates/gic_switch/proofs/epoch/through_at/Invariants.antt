use Rattle.std.proofs.Common.{◌≤◌, length}
use Rattle.gic_model.specs.Standing.{rows_in_force}
use Rattle.gic_switch.proofs.epoch.through_at.Given as goal

-- this many are in force at least
abbrev pub invariant-loop-place : goal.invariant-loop-place
invariant-loop-place l = l.place ≤ length (rows_in_force l.time l.rows)
