use Rattle.std.proofs.Common.{◌≡◌, ◌<◌, ℕ, map, length}
use Rattle.gic_enclose.specs.Ends.{potential_ends, low_at, high_at}
use Rattle.gic_fixed.specs.Encloses.{IsWithin}
use Rattle.gic_fixed.specs.Ends.{ends_of}
use Rattle.gic_model.specs.Guess.{most_guess}
use Rattle.gic_grounds.proofs.node_intervals.keep_all.Given as goal

-- the nodes so far have their intervals
abbrev pub invariant-loop-node : goal.invariant-loop-node
invariant-loop-node l = record {
  count : length l.list ≡ length l.potentials;
  kept : (k : ℕ) → k < l.node → potential_ends (map ends_of l.list) k ≡ potential_ends l.potentials k;
  small : (k : ℕ) → k < l.node → IsWithin most_guess (low_at l.potentials k) (high_at l.potentials k);
}
