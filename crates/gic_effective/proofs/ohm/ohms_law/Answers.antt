use Rattle.std.proofs.Common.{◌≡◌, ◌*◌, ◌^◌, ◌*ℤ◌, ℤ, pos, ap, ◌∙◌, arith, rules}
use Rattle.gic_fixed.specs.Rounding.{floor_div, ceil_div}
use Rattle.gic_fixed.proofs.Divisions.{floor-floor, ceil-ceil}
use Rattle.gic_effective.specs.Ohm.{current_low, current_high}
use Rattle.gic_effective.proofs.Currents.{Encloses-same, current_holds, low_small, high_small}
use Rattle.gic_effective.proofs.ohm.ohms_law.Goals as goal

low_is : (c : goal.After-div_out) → c.div_out.result.lo ≡ current_low c.args.times c.args.divisor c.args.drive.lo
low_is c =
    let r = c.raised-product.result.lo in
    let whole : c.div_out.result.lo ≡ floor_div c.over_ohms.result.lo (pos (2 ^ 36)) = search (rules, c.div_out.ensures.low) in
    let over : c.over_ohms.result.lo ≡ floor_div r (pos c.args.divisor) = search (rules, c.over_ohms.ensures.low) in
    let product : r ≡ pos (c.args.times * 1000000) *ℤ c.args.drive.lo = search (rules, c.raised-product.ensures.low) in
    whole ∙ ap (λ (z : ℤ). floor_div z (pos (2 ^ 36))) over ∙ floor-floor r c.args.divisor (2 ^ 36) ∙ ap (λ (z : ℤ). floor_div z (pos (c.args.divisor * 2 ^ 36))) product

high_is : (c : goal.After-div_out) → c.div_out.result.hi ≡ current_high c.args.times c.args.divisor c.args.drive.hi
high_is c =
    let r = c.raised-product.result.hi in
    let whole : c.div_out.result.hi ≡ ceil_div c.over_ohms.result.hi (pos (2 ^ 36)) = search (rules, c.div_out.ensures.high) in
    let over : c.over_ohms.result.hi ≡ ceil_div r (pos c.args.divisor) = search (rules, c.over_ohms.ensures.high) in
    let product : r ≡ pos (c.args.times * 1000000) *ℤ c.args.drive.hi = search (rules, c.raised-product.ensures.high) in
    whole ∙ ap (λ (z : ℤ). ceil_div z (pos (2 ^ 36))) over ∙ ceil-ceil r c.args.divisor (2 ^ 36) ∙ ap (λ (z : ℤ). ceil_div z (pos (c.args.divisor * 2 ^ 36))) product

pub returns-clause-low : goal.returns-clause-low
returns-clause-low c = low_is c

pub returns-clause-high : goal.returns-clause-high
returns-clause-high c = high_is c

pub returns-clause-holds : goal.returns-clause-holds
returns-clause-holds c nanovolts current d driven ohm =
    Encloses-same _ _ _ _ current d (low_is c) (high_is c)
    (current_holds (2 ^ 36) c.args.times c.args.divisor c.args.drive.lo c.args.drive.hi nanovolts current d (omega (arith, c.requires.resistance)) (omega arith) driven ohm)

pub returns-clause-small : goal.returns-clause-small
returns-clause-small c = record {
  low = low_small c.args.times c.args.divisor c.args.drive.lo c.requires.times c.requires.resistance c.requires.drive.low c.div_out.result.lo (low_is c);
  high = high_small c.args.times c.args.divisor c.args.drive.hi c.requires.times c.requires.resistance c.requires.drive.high c.div_out.result.hi (high_is c);
}
