use Rattle.std.proofs.Common.{◌≡◌, ◌≤◌}
use Rattle.gic_precondition.specs.Inside.{AreNodes}
use Rattle.gic_precondition.proofs.eliminating.pass.Given as goal

abbrev pub invariant-loop-place : goal.invariant-loop-place
invariant-loop-place l = record {
  same : l.elimination ≡ l.fn.elimination;
  kept : l.kept ≤ l.place;
  nodes : AreNodes l.elimination l.list;
}
