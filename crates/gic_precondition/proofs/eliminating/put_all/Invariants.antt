use Rattle.std.proofs.Common.{◌≡◌}
use Rattle.gic_precondition.proofs.eliminating.put_all.Given as goal

abbrev pub invariant-loop-wire : goal.invariant-loop-wire
invariant-loop-wire l = l.elimination ≡ l.fn.elimination
