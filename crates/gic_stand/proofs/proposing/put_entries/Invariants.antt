use Rattle.std.proofs.Common.{◌≡◌, length}
use Rattle.gic_stand.proofs.proposing.put_entries.Given as goal

abbrev pub invariant-loop-node : goal.invariant-loop-node
invariant-loop-node l = length l.out ≡ length l.fn.out
