use Rattle.std.proofs.Common.{arith, ap}
use Rattle.std.specs.Int.Signed.{mag}
use Rattle.std.proofs.lemmas.Int.{ints}
use Rattle.gic_fixed.proofs.BitSigns.{cast_fits, depth_is}
use Rattle.gic_fixed.proofs.long.depth.Goals as goal

pub overflow_cast-result : goal.overflow_cast-result
overflow_cast-result c = cast_fits _ (mag c.args.number) (depth_is c.args.number c.ranges.number) c.ranges.number.sfits

pub returns-clause-below : goal.returns-clause-below
returns-clause-below c n e = omega (arith, ints, depth_is c.args.number c.ranges.number, ap mag e)

pub returns-clause-small : goal.returns-clause-small
returns-clause-small c = omega (arith, ints, depth_is c.args.number c.ranges.number, c.ranges.number.sfits)
