use Rattle.std.proofs.Common.{◌≡◌, ℕ, ◌+◌, ◌*◌, ◌^◌, ◌≤◌, ℤ, pos, ◌+ℤ◌, unsigned_abs, arith, rules, sym, subst}
use Rattle.gic_fixed.specs.Rounding.{floor_div, ceil_div}
use Rattle.gic_effective.specs.Ohm.{most_current}
use Rattle.gic_effective.specs.WeightedSum.{weighted_sum}
use Rattle.gic_effective.proofs.Currents.{Encloses-same, quotient_within, floor_small, ceil_small}
use Rattle.gic_effective.proofs.Weights.{sum_holds, sum_small}
use Rattle.gic_effective.proofs.Widths.{effective_width, same_width}
use Rattle.gic_effective.proofs.effective.signed_effective.Goals as goal

low : (c : goal.After-div_out) → let w = c.args.weights.now in
    c.div_out.result.lo ≡ floor_div (weighted_sum w c.args.currents.now.first.lo c.args.currents.now.second.lo c.args.currents.now.third.lo) (pos (3000000 * w.high_volts))
low c = search rules

high : (c : goal.After-div_out) → let w = c.args.weights.now in
    c.div_out.result.hi ≡ ceil_div (weighted_sum w c.args.currents.now.first.hi c.args.currents.now.second.hi c.args.currents.now.third.hi) (pos (3000000 * w.high_volts))
high c = search rules

pub returns-clause-low : goal.returns-clause-low
returns-clause-low c = low c

pub returns-clause-high : goal.returns-clause-high
returns-clause-high c = high c

pub returns-clause-holds : goal.returns-clause-holds
returns-clause-holds c one other last d each =
    let w = c.args.weights.now in
    Encloses-same _ _ _ _ _ _ (low c) (high c)
    (sum_holds w (3000000 * w.high_volts) c.args.currents.now.first.lo c.args.currents.now.first.hi c.args.currents.now.second.lo c.args.currents.now.second.hi c.args.currents.now.third.lo c.args.currents.now.third.hi one other last d (omega (arith, c.requires.volts)) each.in_first each.in_second each.in_third)

pub returns-clause-narrow : goal.returns-clause-narrow
returns-clause-narrow c width sum wide =
    let w = c.args.weights.now in
    same_width c.div_out.result.lo c.div_out.result.hi _ _ (width + 1) (low c) (high c)
    (effective_width w w.high_volts c.args.currents.now.first.lo c.args.currents.now.first.hi c.args.currents.now.second.lo c.args.currents.now.second.hi c.args.currents.now.third.lo c.args.currents.now.third.hi width c.requires.volts sum wide.in_first wide.in_second wide.in_third)

pub returns-clause-small : goal.returns-clause-small
returns-clause-small c =
    let d = 3000000 * c.args.weights.now.high_volts in
    let one = c.part.result in
    let other = c.part-2.result in
    let last = c.part-3.result in
    let low : c.div_out.result.lo ≡ floor_div ((one.lo +ℤ other.lo) +ℤ last.lo) (pos d) = search rules in
    let high : c.div_out.result.hi ≡ ceil_div ((one.hi +ℤ other.hi) +ℤ last.hi) (pos d) = search rules in
    quotient_within one.lo other.lo last.lo one.hi other.hi last.hi c.div_out.result.lo c.div_out.result.hi d (omega (arith, c.requires.volts))
    c.part.ensures.small c.part-2.ensures.small c.part-3.ensures.small low high

-- three times the most current is less than 3 million times 2^54
milli_most : (n volts : ℕ) → n ≤ 3 * volts * most_current → n ≤ 3000000 * volts * 2 ^ 54
milli_most n volts h = omega (arith, h)

pub returns-clause-weighed : goal.returns-clause-weighed
returns-clause-weighed c sum =
    let w = c.args.weights.now in
    let first = c.requires.size.in_first in
    let second = c.requires.size.in_second in
    let third = c.requires.size.in_third in
    record {
      low = subst (λ (z : ℤ). unsigned_abs z ≤ 2 ^ 54) (sym (low c)) (floor_small _ (3000000 * w.high_volts) (2 ^ 54) (omega (arith, c.requires.volts))
          (milli_most _ w.high_volts (sum_small w w.high_volts c.args.currents.now.first.lo c.args.currents.now.second.lo c.args.currents.now.third.lo sum first.low second.low third.low)));
      high = subst (λ (z : ℤ). unsigned_abs z ≤ 2 ^ 54) (sym (high c)) (ceil_small _ (3000000 * w.high_volts) (2 ^ 54) (omega (arith, c.requires.volts))
          (milli_most _ w.high_volts (sum_small w w.high_volts c.args.currents.now.first.hi c.args.currents.now.second.hi c.args.currents.now.third.hi sum first.high second.high third.high)));
    }
