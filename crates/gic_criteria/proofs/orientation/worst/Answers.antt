use Rattle.std.proofs.Common.{◌≡◌, ◌+◌, ◌≤ℤ◌, pos, unsigned_abs, arith, rules, subst, sym}
use Rattle.std.proofs.lemmas.Int.{ints, clamps}
use Rattle.gic_fixed.specs.Roots.{IsFloorRoot, IsCeilRoot}
use Rattle.gic_criteria.specs.Worst.{square_of}
use Rattle.gic_criteria.proofs.Worsts.{floor_root_same, ceil_root_same, lengths_in_order, least_not_negative, worst_holds, worst_narrow}
use Rattle.gic_criteria.proofs.orientation.worst.Goals as goal

pub floor_length-requires-clause-a : goal.floor_length-requires-clause-a
floor_length-requires-clause-a c = omega (arith, ints, clamps, c.abs-a.ensures.low, c.requires.north.low, c.requires.north.high)

pub floor_length-requires-clause-b : goal.floor_length-requires-clause-b
floor_length-requires-clause-b c = omega (arith, ints, clamps, c.abs-b.ensures.low, c.requires.east.low, c.requires.east.high)

pub ceil_length-requires-clause-a : goal.ceil_length-requires-clause-a
ceil_length-requires-clause-a c = omega (arith, ints, clamps, c.abs-a.ensures.high, c.requires.north.low, c.requires.north.high)

pub ceil_length-requires-clause-b : goal.ceil_length-requires-clause-b
ceil_length-requires-clause-b c = omega (arith, ints, clamps, c.abs-b.ensures.high, c.requires.east.low, c.requires.east.high)

pub new-requires : goal.new-requires
new-requires c =
    let a = c.abs-a.result in
    let b = c.abs-b.result in
    let floor : IsFloorRoot (square_of a.lo + square_of b.lo) (unsigned_abs c.floor_length.result) = search (rules, c.floor_length.ensures.root) in
    let ceil : IsCeilRoot (square_of a.hi + square_of b.hi) (unsigned_abs c.ceil_length.result) = search (rules, c.ceil_length.ensures.root) in
    let first : pos 0 ≤ℤ a.lo = subst (λ z. pos 0 ≤ℤ z) (sym c.abs-a.ensures.low) (least_not_negative c.args.north.lo c.args.north.hi) in
    let second : pos 0 ≤ℤ b.lo = subst (λ z. pos 0 ≤ℤ z) (sym c.abs-b.ensures.low) (least_not_negative c.args.east.lo c.args.east.hi) in
    let order = lengths_in_order a.lo a.hi b.lo b.hi c.floor_length.result c.ceil_length.result first a.ordered second b.ordered c.floor_length.ensures.sign c.ceil_length.ensures.sign floor ceil in
    search (rules, order)

pub returns-clause-is : goal.returns-clause-is
returns-clause-is c =
    let a = c.abs-a.result in
    let b = c.abs-b.result in
    let worst = c.new.result in
    let floor : IsFloorRoot (square_of a.lo + square_of b.lo) (unsigned_abs c.floor_length.result) = search (rules, c.floor_length.ensures.root) in
    let ceil : IsCeilRoot (square_of a.hi + square_of b.hi) (unsigned_abs c.ceil_length.result) = search (rules, c.ceil_length.ensures.root) in
    let low : c.floor_length.result ≡ worst.lo = search (rules, c.new.ensures.low) in
    let high : c.ceil_length.result ≡ worst.hi = search (rules, c.new.ensures.high) in
    record {
      not_negative = search (rules, c.floor_length.ensures.sign);
      in_order = worst.ordered;
      low = floor_root_same a.lo _ b.lo _ c.floor_length.result worst.lo c.abs-a.ensures.low c.abs-b.ensures.low low floor;
      high = ceil_root_same a.hi _ b.hi _ c.ceil_length.result worst.hi c.abs-a.ensures.high c.abs-b.ensures.high high ceil;
    }

pub returns-clause-holds : goal.returns-clause-holds
returns-clause-holds c =
    let is = returns-clause-is c in
    worst_holds c.args.north.lo c.args.north.hi c.args.east.lo c.args.east.hi c.new.result.lo c.new.result.hi c.args.north.ordered c.args.east.ordered is.not_negative is.low is.high

pub returns-clause-narrow : goal.returns-clause-narrow
returns-clause-narrow c =
    let is = returns-clause-is c in
    worst_narrow c.args.north.lo c.args.north.hi c.args.east.lo c.args.east.hi c.new.result.lo c.new.result.hi c.args.north.ordered c.args.east.ordered is.not_negative is.low is.high
