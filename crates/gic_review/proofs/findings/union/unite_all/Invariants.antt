use Rattle.std.proofs.Common.{◌≡◌, length, take}
use Rattle.std.specs.Prelude.{fold}
use Rattle.std.specs.List.{range_with_len}
use Rattle.gic_review.specs.Union.{ArePointers, LeadTo, firsts_with}
use Rattle.gic_review.proofs.findings.union.unite_all.Given as goal

-- the pointers lead to the first nodes that the elements so far give
abbrev pub invariant-loop-element : goal.invariant-loop-element
invariant-loop-element l = record {
  count : length l.pointers ≡ l.elements.nodes;
  pointers : ArePointers l.pointers;
  lead : LeadTo l.pointers (fold firsts_with (range_with_len 0 l.elements.nodes) (take l.element-index l.elements.list));
}
