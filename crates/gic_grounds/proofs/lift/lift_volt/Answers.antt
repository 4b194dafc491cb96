use Rattle.std.proofs.Common.{◌≡◌, ◌-◌, ◌≤◌, ◌∙◌, ℤ, ap, arith, pos, ◌-ℤ◌, ◌*ℤ◌, neg_ℤ, rules, subst, subst₂, sym, to_z, of_z, w64, unsigned_abs}
use Rattle.std.specs.Prelude.{FitsSigned}
use Rattle.std.proofs.lemmas.Int.{ints, fits_signed_from_abs}
use Rattle.std.specs.Int.{w128, int_max}
use Rattle.gic_model.specs.Limits.{most_wide_volts}
use Rattle.gic_grounds.proofs.Raised.{lift_within, rise_fits, lifted, lowered}
use Rattle.gic_grounds.proofs.lift.lift_volt.Goals as goal

pub overflow_mul-rise : goal.overflow_mul-rise
overflow_mul-rise c =
    let one : to_z w128 (of_z w128 c.from.result) ≡ pos (c.args.most - c.args.least) = search (rules, c.from.ensures) in
    let other : to_z w128 (of_z w128 c.max.result) ≡ int_max c.args.height (pos 0) = search (rules, c.max.ensures.value) in
    subst₂ (λ a b. FitsSigned w128 (a *ℤ b)) (sym one) (sym other)
    (rise_fits c.args.least c.args.most c.args.height c.requires.modest c.ranges.least.fits c.requires.height)

pub overflow_sub-result : goal.overflow_sub-result
overflow_sub-result c =
    let is = lifted c.args.least c.args.most c.args.height c.from.result c.max.result c.point.result.hi c.from-2.result
    c.div_out-lift.result.hi c.requires.above_0 c.requires.modest c.ranges.least.fits c.requires.height
    c.from.ensures c.max.ensures.value c.point.ensures.high c.from-2.ensures c.div_out-lift.ensures.high in
    let small : unsigned_abs c.div_out-lift.result.hi ≤ 285000000000000000 =
    subst (λ (z : ℤ). unsigned_abs z ≤ 285000000000000000) (sym is)
    (lift_within c.args.least c.args.most c.args.height c.requires.above_0 c.requires.modest c.requires.height) in
    fits_signed_from_abs w128 (pos 0 -ℤ to_z w128 (of_z w128 c.div_out-lift.result.hi)) (omega (arith, ints, small))

pub overflow_cast-result : goal.overflow_cast-result
overflow_cast-result c =
    let is = lifted c.args.least c.args.most c.args.height c.from.result c.max.result c.point.result.hi c.from-2.result
    c.div_out-lift.result.hi c.requires.above_0 c.requires.modest c.ranges.least.fits c.requires.height
    c.from.ensures c.max.ensures.value c.point.ensures.high c.from-2.ensures c.div_out-lift.ensures.high in
    let small : unsigned_abs c.div_out-lift.result.hi ≤ 285000000000000000 =
    subst (λ (z : ℤ). unsigned_abs z ≤ 285000000000000000) (sym is)
    (lift_within c.args.least c.args.most c.args.height c.requires.above_0 c.requires.modest c.requires.height) in
    fits_signed_from_abs w64 (to_z w128 (of_z w128 (pos 0 -ℤ to_z w128 (of_z w128 c.div_out-lift.result.hi)))) (omega (arith, ints, small))

pub returns-clause-value : goal.returns-clause-value
returns-clause-value c =
    let is = lifted c.args.least c.args.most c.args.height c.from.result c.max.result c.point.result.hi c.from-2.result
    c.div_out-lift.result.hi c.requires.above_0 c.requires.modest c.ranges.least.fits c.requires.height
    c.from.ensures c.max.ensures.value c.point.ensures.high c.from-2.ensures c.div_out-lift.ensures.high in
    let small : unsigned_abs c.div_out-lift.result.hi ≤ 285000000000000000 =
    subst (λ (z : ℤ). unsigned_abs z ≤ 285000000000000000) (sym is)
    (lift_within c.args.least c.args.most c.args.height c.requires.above_0 c.requires.modest c.requires.height) in
    lowered c.div_out-lift.result.hi small ∙ ap neg_ℤ is

pub returns-clause-limit : goal.returns-clause-limit
returns-clause-limit c =
    let is = lifted c.args.least c.args.most c.args.height c.from.result c.max.result c.point.result.hi c.from-2.result
    c.div_out-lift.result.hi c.requires.above_0 c.requires.modest c.ranges.least.fits c.requires.height
    c.from.ensures c.max.ensures.value c.point.ensures.high c.from-2.ensures c.div_out-lift.ensures.high in
    let small : unsigned_abs c.div_out-lift.result.hi ≤ 285000000000000000 =
    subst (λ (z : ℤ). unsigned_abs z ≤ 285000000000000000) (sym is)
    (lift_within c.args.least c.args.most c.args.height c.requires.above_0 c.requires.modest c.requires.height) in
    subst (λ (z : ℤ). unsigned_abs z ≤ most_wide_volts) (sym (lowered c.div_out-lift.result.hi small)) (omega (arith, ints, small))
