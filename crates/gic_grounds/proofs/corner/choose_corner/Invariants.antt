use Rattle.std.proofs.Common.{◌≡◌, ◌<◌, ℕ, length}
use Rattle.gic_enclose.specs.Ends.{potential_ends}
use Rattle.gic_grounds.specs.Corner.{is_most_at, is_most_for}
use Rattle.gic_grounds.proofs.corner.choose_corner.Given as goal

-- the nodes so far have their marks
abbrev pub invariant-loop-node : goal.invariant-loop-node
invariant-loop-node l = record {
  count : length l.out ≡ length l.adjoint;
  marked : (k : ℕ) → k < l.node → is_most_at l.out k ≡ is_most_for l.extreme (potential_ends l.adjoint k) (potential_ends l.reference k);
}
