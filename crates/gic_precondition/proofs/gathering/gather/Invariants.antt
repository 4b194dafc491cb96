use Rattle.std.proofs.Common.{◌≡◌}
use Rattle.gic_precondition.proofs.gathering.gather.Given as goal

abbrev pub invariant-loop : goal.invariant-loop
invariant-loop l = record {
  graph : l.graph ≡ l.fn.graph;
  neighbourhood : l.neighbourhood ≡ l.fn.neighbourhood;
}
