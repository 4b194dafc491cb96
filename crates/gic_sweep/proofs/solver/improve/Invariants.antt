use Rattle.std.proofs.Common.{◌≡◌, ◌+◌, ◌*◌, ◌≤◌, length}
use Rattle.gic_sweep.proofs.solver.improve.Given as goal

abbrev pub invariant-loop-round : goal.invariant-loop-round
invariant-loop-round g l = record {
  tick : l.steps ≡ l.initial.steps + l.round;
  few_passes : l.passes ≤ 64 * l.round;
  same : l.round ≡ 0 → l.solver ≡ l.initial.solver;
  same_length : length l.solver ≡ length l.initial.solver;
}
