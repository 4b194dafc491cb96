use Rattle.std.proofs.Common.{◌≡◌, ◌*◌, ◌≤◌, ℤ, pos, unsigned_abs, arith, rules, sym, subst}
use Rattle.gic_fixed.specs.Rounding.{floor_div, ceil_div}
use Rattle.gic_effective.specs.Ohm.{most_current}
use Rattle.gic_effective.specs.WeightedSum.{weighted_sum}
use Rattle.gic_effective.proofs.Currents.{Encloses-same, floor_small, ceil_small}
use Rattle.gic_effective.proofs.Weights.{sum_holds, sum_small}
use Rattle.gic_effective.proofs.Widths.{effective_tight, same_width}
use Rattle.gic_effective.proofs.effective.effective_na.Goals as goal

low : (c : goal.After-div_out) → let w = c.args.weights.now in
    c.div_out.result.lo ≡ floor_div (weighted_sum w c.args.currents.now.first.lo c.args.currents.now.second.lo c.args.currents.now.third.lo) (pos (3 * w.high_volts))
low c = search rules

high : (c : goal.After-div_out) → let w = c.args.weights.now in
    c.div_out.result.hi ≡ ceil_div (weighted_sum w c.args.currents.now.first.hi c.args.currents.now.second.hi c.args.currents.now.third.hi) (pos (3 * w.high_volts))
high c = search rules

pub returns-clause-low : goal.returns-clause-low
returns-clause-low c = low c

pub returns-clause-high : goal.returns-clause-high
returns-clause-high c = high c

pub returns-clause-holds : goal.returns-clause-holds
returns-clause-holds c one other last d each =
    let w = c.args.weights.now in
    Encloses-same _ _ _ _ _ _ (low c) (high c)
    (sum_holds w (3 * w.high_volts) c.args.currents.now.first.lo c.args.currents.now.first.hi c.args.currents.now.second.lo c.args.currents.now.second.hi c.args.currents.now.third.lo c.args.currents.now.third.hi one other last d (omega (arith, c.requires.volts)) each.in_first each.in_second each.in_third)

pub returns-clause-small : goal.returns-clause-small
returns-clause-small c sum =
    let w = c.args.weights.now in
    let first = c.requires.size.in_first in
    let second = c.requires.size.in_second in
    let third = c.requires.size.in_third in
    record {
      low = subst (λ (z : ℤ). unsigned_abs z ≤ most_current) (sym (low c)) (floor_small _ (3 * w.high_volts) most_current (omega (arith, c.requires.volts))
          (sum_small w w.high_volts c.args.currents.now.first.lo c.args.currents.now.second.lo c.args.currents.now.third.lo sum first.low second.low third.low));
      high = subst (λ (z : ℤ). unsigned_abs z ≤ most_current) (sym (high c)) (ceil_small _ (3 * w.high_volts) most_current (omega (arith, c.requires.volts))
          (sum_small w w.high_volts c.args.currents.now.first.hi c.args.currents.now.second.hi c.args.currents.now.third.hi sum first.high second.high third.high));
    }

pub returns-clause-tight : goal.returns-clause-tight
returns-clause-tight c sum wide =
    let w = c.args.weights.now in
    same_width c.div_out.result.lo c.div_out.result.hi _ _ 401 (low c) (high c)
    (effective_tight w w.high_volts c.args.currents.now.first.lo c.args.currents.now.first.hi c.args.currents.now.second.lo c.args.currents.now.second.hi c.args.currents.now.third.lo c.args.currents.now.third.hi c.requires.volts sum wide.in_first wide.in_second wide.in_third)
