use Rattle.std.proofs.Common.{◌≡◌, ◌+◌, drop}
use Rattle.gic_base.specs.Refusals.{settle}
use Rattle.gic_case_reader.specs.OneByOne.{breaks_same_ends_from}
use Rattle.gic_case_reader.proofs.side.lines_have_two_buses.Given as goal

-- the lines that are left decide
abbrev pub invariant-loop-i : goal.invariant-loop-i
invariant-loop-i l = settle (breaks_same_ends_from (l.i + 1) (drop l.i l.lines)) (tt {0}) ≡ settle (breaks_same_ends_from 1 l.lines) (tt {0})
