use Rattle.std.proofs.Common.{◌≡◌, ◌++◌, drop, length}
use Rattle.gic_review.specs.Sides.{volts_from}
use Rattle.gic_review.proofs.findings.sides.push_all_volts.Given as goal

-- what is told so far and what is left are all
abbrev pub invariant-loop-side : goal.invariant-loop-side
invariant-loop-side l = record {
  count : length l.measures ≡ length l.fn.measures;
  rest : l.findings.items ++ volts_from l.measures (drop l.side-index l.sides) ≡ l.fn.findings.items ++ volts_from l.fn.measures l.sides;
}
