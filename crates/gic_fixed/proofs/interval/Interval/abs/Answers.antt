use Rattle.std.proofs.Common.{arith}
use Rattle.std.proofs.lemmas.Int.{ints, clamps}
use Rattle.gic_fixed.proofs.interval.Interval.abs.Goals as goal

pub invariant_of-result : goal.invariant_of-result
invariant_of-result c = record { ordered = omega (arith, ints, clamps) }

pub returns-clause-low : goal.returns-clause-low
returns-clause-low c = omega (arith, ints, clamps)

pub returns-clause-high : goal.returns-clause-high
returns-clause-high c = omega (arith, ints, clamps)
