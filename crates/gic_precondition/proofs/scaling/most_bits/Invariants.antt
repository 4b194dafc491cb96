use Rattle.std.proofs.Common.{◌≤◌}
use Rattle.gic_precondition.proofs.scaling.most_bits.Given as goal

abbrev pub invariant-loop-current : goal.invariant-loop-current
invariant-loop-current l = l.most ≤ 128
