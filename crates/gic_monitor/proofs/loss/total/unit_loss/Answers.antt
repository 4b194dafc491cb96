use Rattle.std.proofs.Common.{rules, ◌≡◌, ◌^◌, pos, ℤ, ◌*ℤ◌, ◌≤ℤ◌, FitsSigned, to_z, of_z, sym, subst, arith, ◌∙◌, ap}
use Rattle.std.proofs.lemmas.Int.{ints}
use Rattle.std.specs.Int.{w128, int_min, int_max}
use Rattle.gic_fixed.specs.Ends.{Ends, ends_of}
use Rattle.gic_view.specs.View.{effective_at}
use Rattle.gic_fixed.proofs.Enclosures.{scale_low, scale_high}
use Rattle.gic_monitor.specs.LossText.{counted_current}
use Rattle.gic_monitor.proofs.Scaled.{small_product, fits_product}
use Rattle.gic_monitor.proofs.loss.total.unit_loss.Goals as goal

pub scale-requires-clause-low : goal.scale-requires-clause-low
scale-requires-clause-low c =
    let current = c.counted_current.result in
    let factor : to_z w128 (of_z w128 c.from.result) ≡ pos c.args.factor = search rules in
    subst (λ (k : ℤ). FitsSigned w128 (current.lo *ℤ k)) (sym factor)
    (fits_product current.lo c.args.factor c.counted_current.ensures.least (omega (arith, ints, current.ordered, c.counted_current.ensures.most)) (omega (arith, c.ranges.factor)))

pub scale-requires-clause-high : goal.scale-requires-clause-high
scale-requires-clause-high c =
    let current = c.counted_current.result in
    let factor : to_z w128 (of_z w128 c.from.result) ≡ pos c.args.factor = search rules in
    subst (λ (k : ℤ). FitsSigned w128 (current.hi *ℤ k)) (sym factor)
    (fits_product current.hi c.args.factor (omega (arith, ints, current.ordered, c.counted_current.ensures.least)) c.counted_current.ensures.most (omega (arith, c.ranges.factor)))

low_is : (c : goal.After-scale) → c.scale.result.lo ≡ pos c.args.factor *ℤ c.counted_current.result.lo
low_is c =
    let current = c.counted_current.result in
    let factor : to_z w128 (of_z w128 c.from.result) ≡ pos c.args.factor = search rules in
    c.scale.ensures.low ∙ ap (λ (k : ℤ). int_min (current.lo *ℤ k) (current.hi *ℤ k)) factor ∙ scale_low current.lo current.hi c.args.factor current.ordered

high_is : (c : goal.After-scale) → c.scale.result.hi ≡ pos c.args.factor *ℤ c.counted_current.result.hi
high_is c =
    let current = c.counted_current.result in
    let factor : to_z w128 (of_z w128 c.from.result) ≡ pos c.args.factor = search rules in
    c.scale.ensures.high ∙ ap (λ (k : ℤ). int_max (current.lo *ℤ k) (current.hi *ℤ k)) factor ∙ scale_high current.lo current.hi c.args.factor current.ordered

pub returns-clause-value : goal.returns-clause-value
returns-clause-value c =
    let counted : ends_of c.counted_current.result ≡ counted_current (effective_at c.args.view.now c.args.unit) = c.counted_current.ensures.value ∙ ap counted_current c.effective.ensures in
    let low : c.counted_current.result.lo ≡ (counted_current (effective_at c.args.view.now c.args.unit)).low = ap (λ (e : Ends). e.low) counted in
    let high : c.counted_current.result.hi ≡ (counted_current (effective_at c.args.view.now c.args.unit)).high = ap (λ (e : Ends). e.high) counted in
    let least = low_is c ∙ ap (λ (z : ℤ). pos c.args.factor *ℤ z) low in
    let most = high_is c ∙ ap (λ (z : ℤ). pos c.args.factor *ℤ z) high in
    cc

pub returns-clause-least : goal.returns-clause-least
returns-clause-least c =
    let current = c.counted_current.result in
    let small = small_product current.lo c.args.factor c.counted_current.ensures.least (omega (arith, ints, current.ordered, c.counted_current.ensures.most)) (omega (arith, c.ranges.factor)) in
    subst (λ (z : ℤ). pos 0 ≤ℤ z) (sym (low_is c)) small.least

pub returns-clause-most : goal.returns-clause-most
returns-clause-most c =
    let current = c.counted_current.result in
    let small = small_product current.hi c.args.factor (omega (arith, ints, current.ordered, c.counted_current.ensures.least)) c.counted_current.ensures.most (omega (arith, c.ranges.factor)) in
    subst (λ (z : ℤ). z ≤ℤ pos (2 ^ 102)) (sym (high_is c)) small.most
