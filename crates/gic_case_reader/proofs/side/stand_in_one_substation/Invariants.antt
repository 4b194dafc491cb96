use Rattle.std.proofs.Common.{◌≡◌, ◌+◌, drop}
use Rattle.gic_base.specs.Refusals.{settle}
use Rattle.gic_case_reader.specs.OneByOne.{breaks_apart_from}
use Rattle.gic_case_reader.proofs.side.stand_in_one_substation.Given as goal

-- the transformers that are left decide
abbrev pub invariant-loop-i : goal.invariant-loop-i
invariant-loop-i l = settle (breaks_apart_from l.buses (l.i + 1) (drop l.i l.transformers)) (tt {0}) ≡ settle (breaks_apart_from l.buses 1 l.transformers) (tt {0})
