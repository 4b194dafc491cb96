use Rattle.std.proofs.Common.{◌≡◌, ◌<◌, ℕ, take, length, get_or, false}
use Rattle.gic_review.specs.Ungrounded.{is_winding_end}
use Rattle.gic_review.proofs.findings.ungrounded.winding_ends.Given as goal

-- the ends of the elements so far are marked
abbrev pub invariant-loop-element : goal.invariant-loop-element
invariant-loop-element l = record {
  count : length l.marks.items ≡ l.elements.nodes;
  marked : (k : ℕ) → k < l.elements.nodes → get_or l.marks.items k false ≡ is_winding_end (take l.element-index l.elements.list) k;
}
