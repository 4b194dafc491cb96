use Rattle.std.proofs.Common.{◌≡◌, ◌+◌, drop}
use Rattle.gic_base.specs.Refusals.{settle}
use Rattle.gic_case_reader.specs.OneByOne.{breaks_same_sides_from}
use Rattle.gic_case_reader.proofs.side.sides_have_own_buses.Given as goal

-- the transformers that are left decide
abbrev pub invariant-loop-i : goal.invariant-loop-i
invariant-loop-i l = settle (breaks_same_sides_from (l.i + 1) (drop l.i l.transformers)) (tt {0}) ≡ settle (breaks_same_sides_from 1 l.transformers) (tt {0})
