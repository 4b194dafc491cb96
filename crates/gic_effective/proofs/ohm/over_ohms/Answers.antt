use Rattle.std.proofs.Common.{◌≡◌, pos, arith, rules}
use Rattle.std.proofs.lemmas.Int.{ints}
use Rattle.gic_fixed.specs.Rounding.{floor_div, ceil_div}
use Rattle.gic_fixed.proofs.Divisions.{floor_le_ceil}
use Rattle.gic_effective.proofs.ohm.over_ohms.Goals as goal

pub invariant_of-result : goal.invariant_of-result
invariant_of-result c =
    let low : c.floor-low.result ≡ floor_div c.args.product.lo (pos c.args.divisor) = search (rules, c.floor-low.ensures) in
    let high : c.rounded-high.result.hi ≡ ceil_div c.args.product.hi (pos c.args.divisor) = search (rules, c.rounded-high.ensures.high) in
    let order = floor_le_ceil c.args.product.lo c.args.product.hi (pos c.args.divisor) (omega (arith, ints, c.requires)) c.args.product.ordered in
    record { ordered = omega (arith, ints, c.floor-low.type_inv, c.rounded-high.type_inv) }
