use Rattle.std.proofs.Common.{◌≡◌, ◌++◌}
use Rattle.gic_winding.proofs.Pushed.{parts_from}
use Rattle.gic_review.specs.Ungrounded.{ungrounded_of}
use Rattle.gic_review.proofs.UngroundedLemmas.{ungrounded_part}
use Rattle.gic_review.proofs.findings.ungrounded.push_ungrounded.Given as goal

-- what is told so far and what is left are all
abbrev pub invariant-loop-node : goal.invariant-loop-node
invariant-loop-node l = l.findings.items ++ parts_from (ungrounded_part l.elements.list) l.case.substations l.node ≡ l.fn.findings.items ++ ungrounded_of l.case.substations l.elements.list
