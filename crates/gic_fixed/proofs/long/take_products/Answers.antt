use Rattle.std.proofs.Common.{arith}
use Rattle.gic_fixed.proofs.Estimates.{spread, space}
use Rattle.gic_fixed.proofs.long.take_products.Goals as goal

pub returns-then-left : goal.returns-then-left
returns-then-left c = omega (arith, spread c.args.times c.args.by.estimate c.args.by.divisor c.args.by.slack c.requires.reciprocal)

pub returns-else-left : goal.returns-else-left
returns-else-left c = omega (arith, spread c.args.times c.args.by.estimate c.args.by.divisor c.args.by.slack c.requires.reciprocal, space c.args.times c.args.by.divisor c.args.by.slack c.args.low c.requires.times c.requires.most c.requires.slack c.ranges.low.fits)
