use Rattle.std.proofs.Common.{◌*◌, arith, ap}
use Rattle.gic_fixed.proofs.Estimates.{over}
use Rattle.gic_fixed.proofs.long.last_digit.Goals as goal

pub returns-else-digit-by-clause-less : goal.returns-else-digit-by-clause-less
returns-else-digit-by-clause-less c =
    let guess = ap (λ k. k * c.args.by.divisor) c.estimated-digit.ensures.guess in
    let few = over c.args.number c.args.by.estimate c.args.by.divisor c.args.by.slack c.requires.some c.requires.reciprocal c.requires.slack c.ranges.number.fits in
    omega (arith, guess, few, c.estimated-digit.ensures.parts, c.one_more.ensures.less)
