use Rattle.std.proofs.Common.{◌≡◌}
use Rattle.gic_precondition.proofs.elimination.spread.Given as goal

abbrev pub invariant-loop-neighbour : goal.invariant-loop-neighbour
invariant-loop-neighbour l = l.graph ≡ l.fn.graph
