use Rattle.std.proofs.Common.{◌≡◌, ◌*◌, ◌≤◌, ℕ, ℤ, pos, ◌*ℤ◌, arith, ap, sym, subst₂, ◌∙◌}
use Rattle.std.proofs.lemmas.List.Elements.{All-get_or}
use Rattle.gic_case.specs.Sound.{IsSoundTransformer}
use Rattle.gic_fixed.specs.Encloses.{Encloses}
use Rattle.gic_model.specs.Solution.{Solution}
use Rattle.gic_model.specs.Sums.{sum_of}
use Rattle.gic_model.specs.Voltages.{number_at}
use Rattle.gic_net.specs.Net.{standing}
use Rattle.gic_winding.specs.ElementList.{elements_of}
use Rattle.gic_winding.specs.declared.weights.Weights.{Weights}
use Rattle.gic_winding.specs.Weights.{transformer_at, no_transformer, windings_at}
use Rattle.gic_effective.specs.WeightedSum.{weighted_sum, total_weight}
use Rattle.gic_effective.specs.Weighted.{effective_numerator}
use Rattle.gic_effective.proofs.Weighings.{current_in, all_summed, winding_holds, weights_at_most, weights_most}
use Rattle.gic_effective.proofs.nano.effective_na_interval.Goals as goal

row_sound : (c : goal.After-effective_na) → IsSoundTransformer c.args.case.now (transformer_at c.args.case.now c.args.transformer)
row_sound c =
    All-get_or (IsSoundTransformer c.args.case.now) c.args.case.now.transformers c.args.transformer no_transformer c.requires.place c.keeps_rules.ensures.transformers_sound

volts_are : (c : goal.After-effective_na) → c.effective_weights-weights.result.high_volts ≡ (transformer_at c.args.case.now c.args.transformer).high_volts
volts_are c = ap (λ (w : Weights). w.high_volts) c.effective_weights-weights.ensures.value

most : (c : goal.After-effective_na) → total_weight c.effective_weights-weights.result ≤ 3 * c.effective_weights-weights.result.high_volts
most c =
    let sum = weights_most (transformer_at c.args.case.now c.args.transformer) (windings_at (elements_of c.args.case.now) c.args.transformer) c.effective_weights-weights.result
    (weights_at_most c.args.case.now (transformer_at c.args.case.now c.args.transformer) (row_sound c)) c.effective_weights-weights.ensures.all in
    omega (arith, sum, volts_are c)

sum_is : (c : goal.After-effective_na) → (s : Solution) → let w = c.effective_weights-weights.result in
    weighted_sum w (current_in s w.first) (current_in s w.second) (current_in s w.third) ≡ effective_numerator c.args.case.now s c.args.transformer
sum_is c s = all_summed s c.effective_weights-weights.result ∙ sym (ap (sum_of (λ w. pos w.1 *ℤ s.current w.0.0)) c.effective_weights-weights.ensures.all)

pub effective_na-requires-clause-volts : goal.effective_na-requires-clause-volts
effective_na-requires-clause-volts c =
    let sound : IsSoundTransformer c.args.case.now (transformer_at c.args.case.now c.args.transformer) =
    All-get_or (IsSoundTransformer c.args.case.now) c.args.case.now.transformers c.args.transformer no_transformer c.requires.place c.keeps_rules.ensures.transformers_sound in
    let same = ap (λ (w : Weights). w.high_volts) c.effective_weights-weights.ensures.value in
    omega (arith, same, sound.rated.0)

pub returns-clause-holds : goal.returns-clause-holds
returns-clause-holds c s solves holds =
    let stand = standing c.args.net.now in
    let volts = number_at c.args.volts.now in
    let xs = c.args.potentials.now in
    let w = c.effective_weights-weights.result in
    let one = c.winding_current-first in
    let other = c.winding_current-second in
    let last = c.winding_current-third in
    let result = c.effective_na.result in
    let first = winding_holds stand volts xs w.first one.result.lo one.result.hi s one.ensures.shown solves holds in
    let second = winding_holds stand volts xs w.second other.result.lo other.result.hi s other.ensures.shown solves holds in
    let third = winding_holds stand volts xs w.third last.result.lo last.result.hi s last.ensures.shown solves holds in
    let exact = c.effective_na.ensures.holds (current_in s w.first) (current_in s w.second) (current_in s w.third) s.denominator (record { in_first = first; in_second = second; in_third = third }) in
    subst₂ (λ (n : ℤ) (v : ℕ). Encloses result.lo result.hi n (3 * v * s.denominator)) (sum_is c s) (volts_are c) exact

pub returns-clause-small : goal.returns-clause-small
returns-clause-small c =
    let within = c.effective_na.ensures.small (most c) in
    record { low = omega (arith, within.low); high = omega (arith, within.high) }

pub returns-clause-tight : goal.returns-clause-tight
returns-clause-tight c tight =
    c.effective_na.ensures.tight (most c)
    (record { in_first = c.winding_current-first.ensures.tight tight; in_second = c.winding_current-second.ensures.tight tight; in_third = c.winding_current-third.ensures.tight tight })
