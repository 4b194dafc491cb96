use Rattle.std.proofs.Common.{rules, ◌≡◌, pos, ◌≤ℤ◌, sym, subst}
use Rattle.std.specs.Int.{int_min}
use Rattle.gic_fixed.specs.Rounding.{least_abs, greatest_abs}
use Rattle.gic_monitor.specs.LossText.{most_counted_current}
use Rattle.gic_monitor.proofs.Counted.{cut_to, least_of_cut, greatest_of_cut, least_counted, most_counted}
use Rattle.gic_monitor.proofs.loss.current.counted_current.Goals as goal

low_is : (c : goal.After-abs) → c.abs.result.lo ≡ int_min (least_abs c.args.current.lo c.args.current.hi) (pos most_counted_current)
low_is c =
    let low : c.new-cut.result.lo ≡ cut_to most_counted_current c.args.current.lo = search rules in
    let high : c.new-cut.result.hi ≡ cut_to most_counted_current c.args.current.hi = search rules in
    let whole = least_of_cut most_counted_current c.args.current.lo c.args.current.hi in
    let absolute = c.abs.ensures.low in
    cc

high_is : (c : goal.After-abs) → c.abs.result.hi ≡ int_min (greatest_abs c.args.current.lo c.args.current.hi) (pos most_counted_current)
high_is c =
    let low : c.new-cut.result.lo ≡ cut_to most_counted_current c.args.current.lo = search rules in
    let high : c.new-cut.result.hi ≡ cut_to most_counted_current c.args.current.hi = search rules in
    let whole = greatest_of_cut most_counted_current c.args.current.lo c.args.current.hi c.args.current.ordered in
    let absolute = c.abs.ensures.high in
    cc

pub returns-clause-value : goal.returns-clause-value
returns-clause-value c =
    let low = low_is c in
    let high = high_is c in
    cc

pub returns-clause-least : goal.returns-clause-least
returns-clause-least c = subst (λ z. pos 0 ≤ℤ z) (sym (low_is c)) (least_counted most_counted_current c.args.current.lo c.args.current.hi)

pub returns-clause-most : goal.returns-clause-most
returns-clause-most c = subst (λ z. z ≤ℤ pos most_counted_current) (sym (high_is c)) (most_counted most_counted_current (greatest_abs c.args.current.lo c.args.current.hi))
