use Rattle.std.proofs.Common.{◌≡◌, ◌≤◌, ℕ, List}
use Rattle.std.specs.Prelude.{slice_index}
use Rattle.gic_review.specs.Union.{LeadTo}
use Rattle.gic_review.proofs.findings.union.first_of.Given as goal

-- the node comes no later than the one from which the walk began, and has its first node
abbrev pub invariant-loop-at : goal.invariant-loop-at
invariant-loop-at l = record {
  before : l.at ≤ l.fn.node;
  same : (firsts : List ℕ) → LeadTo l.pointers firsts → slice_index firsts l.at ≡ slice_index firsts l.fn.node;
}

abbrev pub decreases-loop-at : goal.decreases-loop-at
decreases-loop-at l = l.at
