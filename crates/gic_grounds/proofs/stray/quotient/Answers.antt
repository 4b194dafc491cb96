use Rattle.std.proofs.Common.{ℤ, ◌+ℤ◌, ◌*ℤ◌, ◌≤◌, ◌^◌, sym, subst, subst₂, unsigned_abs}
use Rattle.std.specs.Int.{w128}
use Rattle.std.specs.Prelude.{FitsSigned}
use Rattle.gic_grounds.proofs.Quotients.{held, whole_is, share_is, fits_sum, quotient_is, quotient_small}
use Rattle.gic_grounds.proofs.stray.quotient.Goals as goal

pub overflow_add-whole : goal.overflow_add-whole
overflow_add-whole c =
    let whole = whole_is c.args.factor c.args.divisor c.args.number c.from-factor.result c.from-divisor.result c.div_euclid.result
    c.rem_euclid.result c.div_euclid-rest.result c.requires.divisor c.requires.least_divisor c.requires.most_factor
    c.requires.small_factor c.requires.number c.from-factor.ensures c.from-divisor.ensures c.div_euclid.ensures in
    let share = share_is c.args.factor c.args.divisor c.args.number c.from-factor.result c.from-divisor.result c.div_euclid.result
    c.rem_euclid.result c.div_euclid-rest.result c.requires.divisor c.requires.least_divisor c.requires.most_factor
    c.requires.small_factor c.requires.number c.from-factor.ensures c.from-divisor.ensures c.rem_euclid.ensures.value
    c.div_euclid-rest.ensures in
    subst₂ (λ (x y : ℤ). FitsSigned w128 (x +ℤ y)) (sym whole) (sym share)
    (fits_sum c.args.factor c.args.divisor c.args.number c.requires.divisor c.requires.least_divisor c.requires.most_factor c.requires.small_factor c.requires.number)

pub returns-clause-value : goal.returns-clause-value
returns-clause-value c =
    let whole = whole_is c.args.factor c.args.divisor c.args.number c.from-factor.result c.from-divisor.result c.div_euclid.result
    c.rem_euclid.result c.div_euclid-rest.result c.requires.divisor c.requires.least_divisor c.requires.most_factor
    c.requires.small_factor c.requires.number c.from-factor.ensures c.from-divisor.ensures c.div_euclid.ensures in
    let share = share_is c.args.factor c.args.divisor c.args.number c.from-factor.result c.from-divisor.result c.div_euclid.result
    c.rem_euclid.result c.div_euclid-rest.result c.requires.divisor c.requires.least_divisor c.requires.most_factor
    c.requires.small_factor c.requires.number c.from-factor.ensures c.from-divisor.ensures c.rem_euclid.ensures.value
    c.div_euclid-rest.ensures in
    let is = quotient_is c.args.factor c.args.divisor c.args.unit c.args.number
    (held (held c.from-factor.result *ℤ held c.div_euclid.result)) (held c.div_euclid-rest.result) c.from.result c.div_euclid-2.result
    c.requires.divisor c.requires.least_divisor c.requires.most_factor c.requires.small_factor c.requires.unit c.ranges.unit.fits
    c.requires.number whole share c.from.ensures c.div_euclid-2.ensures in
    is

pub returns-clause-small : goal.returns-clause-small
returns-clause-small c =
    let whole = whole_is c.args.factor c.args.divisor c.args.number c.from-factor.result c.from-divisor.result c.div_euclid.result
    c.rem_euclid.result c.div_euclid-rest.result c.requires.divisor c.requires.least_divisor c.requires.most_factor
    c.requires.small_factor c.requires.number c.from-factor.ensures c.from-divisor.ensures c.div_euclid.ensures in
    let share = share_is c.args.factor c.args.divisor c.args.number c.from-factor.result c.from-divisor.result c.div_euclid.result
    c.rem_euclid.result c.div_euclid-rest.result c.requires.divisor c.requires.least_divisor c.requires.most_factor
    c.requires.small_factor c.requires.number c.from-factor.ensures c.from-divisor.ensures c.rem_euclid.ensures.value
    c.div_euclid-rest.ensures in
    let is = quotient_is c.args.factor c.args.divisor c.args.unit c.args.number
    (held (held c.from-factor.result *ℤ held c.div_euclid.result)) (held c.div_euclid-rest.result) c.from.result c.div_euclid-2.result
    c.requires.divisor c.requires.least_divisor c.requires.most_factor c.requires.small_factor c.requires.unit c.ranges.unit.fits
    c.requires.number whole share c.from.ensures c.div_euclid-2.ensures in
    subst (λ (z : ℤ). unsigned_abs z ≤ 2 ^ 105) (sym is)
    (quotient_small c.args.factor c.args.divisor c.args.unit c.args.number c.requires.divisor c.requires.least_divisor c.requires.most_factor c.requires.small_factor c.requires.unit c.requires.number)
