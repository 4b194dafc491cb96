use Rattle.std.proofs.Common.{◌≡◌, ◌≤◌, length}
use Rattle.gic_precondition.specs.Inside.{AreNodes}
use Rattle.gic_precondition.proofs.eliminating.eliminate_all.Given as goal

abbrev pub invariant-loop : goal.invariant-loop
invariant-loop l = record {
  same : l.elimination ≡ l.fn.elimination;
  left : l.left ≤ length l.list;
  nodes : AreNodes l.elimination l.list;
}
