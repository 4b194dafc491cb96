use Rattle.std.proofs.Common.{ℕ, ◌<◌, ◌≤◌}
use Rattle.gic_enclose.specs.Ends.{low_at, high_at}
use Rattle.gic_fixed.specs.Encloses.{IsWithin}
use Rattle.gic_grounds.specs.NodeEnds.{AreAllWithin}
use Rattle.gic_grounds.proofs.unit.greatest_end.Given as goal

-- no end so far is beyond it, and it is beyond no bound of all
abbrev pub invariant-loop-node : goal.invariant-loop-node
invariant-loop-node l = record {
  within : (k : ℕ) → k < l.node → IsWithin l.greatest (low_at l.intervals k) (high_at l.intervals k);
  least : (bound : ℕ) → AreAllWithin bound l.intervals → l.greatest ≤ bound;
}
