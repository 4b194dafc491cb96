use Rattle.std.proofs.Common.{◌≡◌, length, pos, rules, sym, subst₂, ℕ, ℤ, ◌*◌, ◌^◌, ap, ◌∙◌, arith}
use Rattle.std.specs.Int.{div_ceil}
use Rattle.gic_fixed.specs.Encloses.{IsWithin}
use Rattle.gic_fixed.specs.Rounding.{floor_div, ceil_div}
use Rattle.gic_model.specs.Guess.{part_times_ohms}
use Rattle.gic_model.specs.Voltages.{number_at}
use Rattle.gic_sweep.proofs.Parts.{rounded_small, part_most}
use Rattle.gic_sweep.proofs.current.current.Goals as goal

low_is : (c : goal.After-rounded) → c.rounded.result.lo ≡ floor_div c.part-times_ohms.result (pos c.args.element.now.micro_ohm)
low_is c =
    let low : c.rounded.result.lo ≡ floor_div c.part-times_ohms.result (pos c.args.divisor) = search (rules, c.rounded.ensures.low) in
    low ∙ ap (λ (n : ℕ). floor_div c.part-times_ohms.result (pos n)) c.requires.divisor

high_is : (c : goal.After-rounded) → c.rounded.result.hi ≡ ceil_div c.part-times_ohms.result (pos c.args.element.now.micro_ohm)
high_is c =
    let high : c.rounded.result.hi ≡ ceil_div c.part-times_ohms.result (pos c.args.divisor) = search (rules, c.rounded.ensures.high) in
    high ∙ ap (λ (n : ℕ). ceil_div c.part-times_ohms.result (pos n)) c.requires.divisor

value : (c : goal.After-rounded) → c.part-times_ohms.result ≡ part_times_ohms (number_at c.args.volts.now) (number_at c.args.guesses.now) c.args.node.0 (c.args.place.0, c.args.element.now)
value c = search (rules, c.part-times_ohms.ensures.value)

pub returns-clause-low : goal.returns-clause-low
returns-clause-low c = low_is c ∙ ap (λ (z : ℤ). floor_div z (pos c.args.element.now.micro_ohm)) (value c)

pub returns-clause-high : goal.returns-clause-high
returns-clause-high c = high_is c ∙ ap (λ (z : ℤ). ceil_div z (pos c.args.element.now.micro_ohm)) (value c)

small_is : (c : goal.After-rounded) → IsWithin (div_ceil (c.args.element.now.times * 1000000 * 2 ^ 20) c.args.element.now.micro_ohm * 2 ^ 86) c.rounded.result.lo c.rounded.result.hi
small_is c =
    let e = c.args.element.now in
    let small = rounded_small (length c.args.guesses.now) e c.requires.element c.part-times_ohms.result c.part-times_ohms.ensures.small in
    subst₂ (λ (a b : ℤ). IsWithin (div_ceil (e.times * 1000000 * 2 ^ 20) e.micro_ohm * 2 ^ 86) a b) (sym (low_is c)) (sym (high_is c)) small

pub returns-clause-small : goal.returns-clause-small
returns-clause-small c = small_is c

pub returns-clause-bounded : goal.returns-clause-bounded
returns-clause-bounded c =
    let most = part_most (length c.args.guesses.now) c.args.element.now c.requires.element in
    record { low = omega (arith, most, (small_is c).low); high = omega (arith, most, (small_is c).high) }
