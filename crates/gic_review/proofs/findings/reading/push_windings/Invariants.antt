use Rattle.std.proofs.Common.{◌≡◌, ◌++◌, drop}
use Rattle.gic_case.specs.declared.case_list.CaseList.TheVariants as lists
use Rattle.gic_review.specs.Readings.{values_told, winding_readings}
use Rattle.gic_review.proofs.findings.reading.push_windings.Given as goal

-- what is told so far and what is told of the windings that are left are all
abbrev pub invariant-loop-winding : goal.invariant-loop-winding
invariant-loop-winding l =
    l.findings.items ++ values_told lists.Transformer l.name (winding_readings (drop l.winding-index l.windings))
    ≡ l.fn.findings.items ++ values_told lists.Transformer l.name (winding_readings l.windings)
