use Rattle.std.proofs.Common.{arith}
use Rattle.gic_fixed.proofs.Estimates.{under}
use Rattle.gic_fixed.proofs.long.estimated.Goals as goal

pub overflow_sub-result : goal.overflow_sub-result
overflow_sub-result c = under c.args.number c.args.by.estimate c.args.by.divisor c.requires

pub returns-clause-parts : goal.returns-clause-parts
returns-clause-parts c = omega (arith, under c.args.number c.args.by.estimate c.args.by.divisor c.requires)
