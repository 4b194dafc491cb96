use Rattle.std.proofs.Common.{◌≡◌, ◌++◌}
use Rattle.std.specs.Iterator.Adapters.{zip_first, zip_second}
use Rattle.std.specs.Slice.Iter.{iter_rest}
use Rattle.gic_case.specs.Lists.{node_names}
use Rattle.gic_case.specs.NodeNames.{names_left}
use Rattle.gic_review.specs.Parts.{parts_told}
use Rattle.gic_review.proofs.findings.parts.push_each_part.Given as goal

-- what is told so far and what is left are all
abbrev pub invariant-loop-name : goal.invariant-loop-name
invariant-loop-name l =
    l.findings.items ++ parts_told (names_left (zip_first l.name-iterator)) (iter_rest (zip_second l.name-iterator)) ≡ l.fn.findings.items ++ parts_told (node_names l.case) l.sizes
