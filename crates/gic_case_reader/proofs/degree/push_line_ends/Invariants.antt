use Rattle.std.proofs.Common.{◌≡◌, ◌++◌, drop}
use Rattle.gic_case.specs.Lists.{line_ends}
use Rattle.gic_case_reader.proofs.degree.push_line_ends.Given as goal

-- the ends so far and those that are left are all of them
abbrev pub invariant-loop-line : goal.invariant-loop-line
invariant-loop-line l = l.ends.items ++ line_ends l.first_bus (drop l.line-index l.lines) ≡ l.fn.ends.items ++ line_ends l.first_bus l.lines
