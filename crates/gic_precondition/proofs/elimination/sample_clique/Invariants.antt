use Rattle.std.proofs.Common.{◌≡◌}
use Rattle.gic_precondition.proofs.elimination.sample_clique.Given as goal

abbrev pub invariant-loop-next : goal.invariant-loop-next
invariant-loop-next l = l.graph ≡ l.fn.graph
