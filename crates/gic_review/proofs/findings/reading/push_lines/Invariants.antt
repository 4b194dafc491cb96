use Rattle.std.proofs.Common.{◌≡◌, ◌++◌, drop}
use Rattle.std.specs.List.{flat_map}
use Rattle.gic_review.specs.Readings.{line_told}
use Rattle.gic_review.proofs.findings.reading.push_lines.Given as goal

-- what is told so far and what is left are all
abbrev pub invariant-loop-line : goal.invariant-loop-line
invariant-loop-line l = l.findings.items ++ flat_map line_told (drop l.line-index l.lines) ≡ l.fn.findings.items ++ flat_map line_told l.lines
