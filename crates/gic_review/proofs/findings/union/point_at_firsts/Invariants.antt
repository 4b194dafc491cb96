use Rattle.std.proofs.Common.{◌≡◌, ◌<◌, ◌≤◌, ℕ, List, length}
use Rattle.std.specs.Prelude.{slice_index}
use Rattle.gic_review.specs.Union.{ArePointers, LeadTo}
use Rattle.gic_review.proofs.findings.union.point_at_firsts.Given as goal

-- the nodes so far point at their first nodes, and the others are as they were
abbrev pub invariant-loop-node : goal.invariant-loop-node
invariant-loop-node l = record {
  count : length l.pointers ≡ length l.fn.pointers;
  pointers : ArePointers l.pointers;
  ahead : (k : ℕ) → l.node ≤ k → slice_index l.pointers k ≡ slice_index l.fn.pointers k;
  behind : (firsts : List ℕ) → LeadTo l.fn.pointers firsts → (k : ℕ) → k < l.node → slice_index l.pointers k ≡ slice_index firsts k;
}
