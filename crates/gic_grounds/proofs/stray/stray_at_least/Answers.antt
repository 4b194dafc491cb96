use Rattle.std.proofs.Common.{arith, ap₂}
use Rattle.gic_fixed.specs.Ends.{ends_of}
use Rattle.gic_grounds.proofs.Quotients.{both_ends, stray_low_at_least, stray_high_at_least, stray_within}
use Rattle.gic_grounds.proofs.stray.stray_at_least.Goals as goal

pub returns-clause-value : goal.returns-clause-value
returns-clause-value c =
    let low = stray_low_at_least c.args.paths c.args.least c.args.most c.args.unit (ends_of c.args.product.now) c.from.result c.from-2.result
    c.from-3.result c.from-4.result (omega (arith, c.requires.least_ohm)) c.requires.unit c.requires.product c.from.ensures
    c.from-2.ensures c.from-3.ensures c.from-4.ensures c.quotient-low.result c.min.result c.quotient-low.ensures.small
    c.quotient-low.ensures.value c.min.ensures.value in
    let high = stray_high_at_least c.args.paths c.args.least c.args.most c.args.unit (ends_of c.args.product.now) c.from.result c.from-2.result
    c.from-3.result c.from-4.result (omega (arith, c.requires.least_ohm)) c.requires.unit c.requires.product c.from.ensures
    c.from-2.ensures c.from-3.ensures c.from-4.ensures c.quotient-high.result c.max.result c.quotient-high.ensures.small
    c.quotient-high.ensures.value c.max.ensures.value in
    ap₂ both_ends low high

pub returns-clause-small : goal.returns-clause-small
returns-clause-small c = stray_within c.quotient-low.result c.quotient-high.result c.min.result c.max.result c.quotient-low.ensures.small
    c.quotient-high.ensures.small c.min.ensures.value c.max.ensures.value
