use Rattle.std.proofs.Common.{◌≤◌}
use Rattle.gic_stand.specs.declared.proposing.TheConstants.{MOST_PARTS}
use Rattle.gic_stand.proofs.proposing.most_parts.Given as goal

abbrev pub invariant-loop-node : goal.invariant-loop-node
invariant-loop-node l = l.most ≤ MOST_PARTS
