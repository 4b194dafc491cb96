use Rattle.std.proofs.Common.{◌≡◌, ◌<◌, ℕ, length, get_or, None}
use Rattle.gic_view.specs.Kept.{optional_ends}
use Rattle.gic_recheck.specs.RightRecheck.{potential_of}
use Rattle.gic_recheck.proofs.potentials.potentials.Given as goal

-- the nodes so far
abbrev pub invariant-loop-node : goal.invariant-loop-node
invariant-loop-node l = record {
  count : length l.list.items ≡ l.nodes;
  filled : (k : ℕ) → k < l.node → optional_ends (get_or l.list.items k None) ≡ potential_of l.cert k;
}
