use Rattle.std.proofs.Common.{length}
use Rattle.gic_precondition.specs.Inside.{AreNodes}
use Rattle.gic_precondition.proofs.system.put_nodes.Given as goal

abbrev pub invariant-loop-place : goal.invariant-loop-place
invariant-loop-place l = AreNodes (length l.list) l.list
