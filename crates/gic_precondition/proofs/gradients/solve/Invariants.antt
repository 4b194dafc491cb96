use Rattle.std.proofs.Common.{◌≡◌}
use Rattle.gic_precondition.proofs.gradients.solve.Given as goal

abbrev pub invariant-loop-pass : goal.invariant-loop-pass
invariant-loop-pass l = l.vectors ≡ l.fn.vectors
