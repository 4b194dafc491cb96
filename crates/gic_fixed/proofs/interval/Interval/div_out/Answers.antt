use Rattle.std.proofs.Common.{◌≡◌, arith, rules}
use Rattle.std.proofs.lemmas.Int.{ints}
use Rattle.gic_fixed.specs.Rounding.{floor_div, ceil_div}
use Rattle.gic_fixed.proofs.Divisions.{floor_le_ceil}
use Rattle.gic_fixed.proofs.interval.Interval.div_out.Goals as goal

pub invariant_of-result : goal.invariant_of-result
invariant_of-result c =
    let low : c.div_floor.result ≡ floor_div c.args.self.lo c.args.d = search (rules, c.div_floor.ensures) in
    let high : c.div_ceil.result ≡ ceil_div c.args.self.hi c.args.d = search (rules, c.div_ceil.ensures) in
    let order = floor_le_ceil c.args.self.lo c.args.self.hi c.args.d c.requires c.args.self.ordered in
    record { ordered = omega (arith, ints, c.div_floor.type_inv, c.div_ceil.type_inv) }
