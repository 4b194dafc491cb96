use Rattle.std.proofs.Common.{◌≤◌}
use Rattle.gic_precondition.proofs.scaling.scale_for.Given as goal

abbrev pub invariant-loop-current : goal.invariant-loop-current
invariant-loop-current l = l.lift ≤ 70
