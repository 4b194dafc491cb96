use Rattle.std.proofs.Common.{◌≡◌, ◌++◌, drop, length}
use Rattle.gic_review.specs.Closures.{closures_from, AreLaidOut}
use Rattle.gic_review.proofs.findings.closing.push_closures_from.Given as goal

-- what is told so far and what is left are all
abbrev pub invariant-loop-line : goal.invariant-loop-line
invariant-loop-line l = record {
  count : length l.places ≡ length l.case.substations;
  laid : AreLaidOut l.places;
  rest : l.findings.items ++ closures_from l.case.buses l.places (drop l.line-index l.case.lines) ≡ l.fn.findings.items ++ closures_from l.case.buses l.fn.places l.case.lines;
}
