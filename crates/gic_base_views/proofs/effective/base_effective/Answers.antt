use Rattle.std.proofs.Common.{◌≡◌, ◌*◌, ◌≤◌, ◌<◌, ℕ, ℤ, pos, ◌*ℤ◌, arith, rules, get_or, ap, sym, subst, subst₂, ◌∙◌}
use Rattle.std.proofs.lemmas.List.{get_or_default}
use Rattle.gic_case.specs.declared.item.Transformer.{Transformer}
use Rattle.gic_case.specs.Sound.{IsSoundTransformer}
use Rattle.gic_fixed.specs.Encloses.{Encloses}
use Rattle.gic_fixed.specs.Ends.{ends_of}
use Rattle.gic_model.specs.Solution.{Solution}
use Rattle.gic_model.specs.Sums.{sum_of}
use Rattle.gic_model.specs.Voltages.{number_at}
use Rattle.gic_net.specs.Net.{standing}
use Rattle.gic_winding.specs.ElementList.{elements_of}
use Rattle.gic_winding.specs.declared.weights.Weights.{Weights}
use Rattle.gic_winding.specs.Weights.{transformer_at, no_transformer, windings_at, weighted_windings}
use Rattle.gic_effective.specs.WeightedSum.{weighted_sum, total_weight}
use Rattle.gic_effective.specs.Weighted.{effective_numerator}
use Rattle.gic_effective.proofs.Weighings.{AreAtMost, current_in, all_summed, winding_holds, weights_at_most, weights_most, sums_zero, quotients_zero}
use Rattle.gic_effective.specs.Ohm.{most_current}
use Rattle.gic_base_views.proofs.Bases.{narrow_from, base_within}
use Rattle.gic_base_views.proofs.effective.base_effective.Goals as goal

row_is : (c : goal.After-effective_na) → transformer_at c.args.case.now c.args.transformer ≡ c.index-transformers-transformer.result
row_is c =
    let row = c.index-transformers-transformer.result in
    let at = c.index-transformers-transformer.is ∙ ap (λ ts. get_or ts c.args.transformer row) c.transformers.ensures.value in
    get_or_default c.args.case.now.transformers c.args.transformer no_transformer row c.requires.place ∙ sym at

order : (c : goal.After-effective_na) → AreAtMost (transformer_at c.args.case.now c.args.transformer)
order c =
    let row = c.index-transformers-transformer.result in
    let sound : IsSoundTransformer c.args.case.now row = search rules in
    subst (λ (t : Transformer). AreAtMost t) (sym (row_is c)) (weights_at_most c.args.case.now row sound)

volts_are : (c : goal.After-effective_na) → c.effective_weights-weights.result.high_volts ≡ (transformer_at c.args.case.now c.args.transformer).high_volts
volts_are c = ap (λ (w : Weights). w.high_volts) c.effective_weights-weights.ensures.value

rated : (c : goal.After-effective_na) → 1 ≤ c.effective_weights-weights.result.high_volts
rated c =
    let row = c.index-transformers-transformer.result in
    let sound : IsSoundTransformer c.args.case.now row = search rules in
    omega (arith, volts_are c, ap (λ (t : Transformer). t.high_volts) (row_is c), sound.rated.0)

sum_is : (c : goal.After-effective_na) → (s : Solution) → let w = c.effective_weights-weights.result in
    weighted_sum w (current_in s w.first) (current_in s w.second) (current_in s w.third) ≡ effective_numerator c.args.case.now s c.args.transformer
sum_is c s = all_summed s c.effective_weights-weights.result ∙ sym (ap (sum_of (λ w. pos w.1 *ℤ s.current w.0.0)) c.effective_weights-weights.ensures.all)

most : (c : goal.After-effective_na) → let w = c.effective_weights-weights.result in total_weight w ≤ 3 * w.high_volts
most c =
    let w = c.effective_weights-weights.result in
    let sum = weights_most (transformer_at c.args.case.now c.args.transformer) (windings_at (elements_of c.args.case.now) c.args.transformer) w (order c) c.effective_weights-weights.ensures.all in
    omega (arith, sum, volts_are c)

pub returns-clause-holds : goal.returns-clause-holds
returns-clause-holds c holds s solves =
    let stand = standing c.args.net.now in
    let volts = number_at c.args.volts.now in
    let xs = c.args.potentials.now in
    let w = c.effective_weights-weights.result in
    let one = c.winding_or_zero-first in
    let other = c.winding_or_zero-second in
    let last = c.winding_or_zero-third in
    let result = c.effective_na.result in
    let first = winding_holds stand volts xs w.first one.result.lo one.result.hi s one.ensures.shown solves (holds s solves) in
    let second = winding_holds stand volts xs w.second other.result.lo other.result.hi s other.ensures.shown solves (holds s solves) in
    let third = winding_holds stand volts xs w.third last.result.lo last.result.hi s last.ensures.shown solves (holds s solves) in
    let exact = c.effective_na.ensures.holds (current_in s w.first) (current_in s w.second) (current_in s w.third) s.denominator (record { in_first = first; in_second = second; in_third = third }) in
    subst₂ (λ (n : ℤ) (v : ℕ). Encloses result.lo result.hi n (3 * v * s.denominator)) (sum_is c s) (volts_are c) exact

pub returns-clause-zeroed : goal.returns-clause-zeroed
returns-clause-zeroed c none =
    let w = c.effective_weights-weights.result in
    let one = c.winding_or_zero-first in
    let other = c.winding_or_zero-second in
    let last = c.winding_or_zero-third in
    let result = c.effective_na.result in
    let some : 0 < 3 * w.high_volts = omega (arith, rated c) in
    let sums = sums_zero (standing c.args.net.now) (number_at c.args.volts.now) c.args.potentials.now (weighted_windings c.args.case.now c.args.transformer) w
    one.result.lo one.result.hi other.result.lo other.result.hi last.result.lo last.result.hi c.effective_weights-weights.ensures.all one.ensures.shown other.ensures.shown last.ensures.shown none in
    quotients_zero _ _ result.lo result.hi (3 * w.high_volts) some c.effective_na.ensures.low c.effective_na.ensures.high sums.0 sums.1

pub returns-clause-narrow : goal.returns-clause-narrow
returns-clause-narrow c tight =
    narrow_from (ends_of c.effective_na.result) 401 (omega arith) c.effective_na.result.ordered
    (c.effective_na.ensures.tight (most c) (record { in_first = c.winding_or_zero-first.ensures.tight tight; in_second = c.winding_or_zero-second.ensures.tight tight; in_third = c.winding_or_zero-third.ensures.tight tight }))

pub returns-clause-small : goal.returns-clause-small
returns-clause-small c = base_within most_current c.effective_na.result.lo c.effective_na.result.hi (omega arith) (c.effective_na.ensures.small (most c))
