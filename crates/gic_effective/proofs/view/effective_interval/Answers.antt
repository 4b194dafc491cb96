use Rattle.std.proofs.Common.{◌≡◌, ◌*◌, ◌^◌, ◌≤◌, ◌<◌, ℕ, ℤ, pos, ◌*ℤ◌, arith, rules, get_or, ap, sym, subst, subst₂, ◌∙◌}
use Rattle.std.proofs.lemmas.List.{get_or_default}
use Rattle.gic_case.specs.declared.item.Transformer.{Transformer}
use Rattle.gic_case.specs.Sound.{IsSoundTransformer}
use Rattle.gic_fixed.specs.Encloses.{Encloses}
use Rattle.gic_model.specs.Solution.{Solution}
use Rattle.gic_model.specs.Sums.{sum_of}
use Rattle.gic_model.specs.Voltages.{number_at}
use Rattle.gic_net.specs.Net.{standing}
use Rattle.gic_winding.specs.ElementList.{elements_of}
use Rattle.gic_winding.specs.declared.weights.Weights.{Weights}
use Rattle.gic_winding.specs.Weights.{transformer_at, no_transformer, windings_at, weighted_windings}
use Rattle.gic_effective.specs.WeightedSum.{weighted_sum}
use Rattle.gic_effective.specs.Weighted.{effective_numerator}
use Rattle.gic_effective.proofs.Fitting.{fits}
use Rattle.gic_effective.proofs.Weighings.{AreAtMost, current_in, all_summed, winding_holds, winding_narrow, weights_at_most, weights_most, sums_zero, quotients_zero}
use Rattle.gic_effective.proofs.view.effective_interval.Goals as goal

row_is : (c : goal.After-signed_effective) → transformer_at c.args.case.now c.args.transformer ≡ c.index-transformers-transformer.result
row_is c =
    let row = c.index-transformers-transformer.result in
    let at = c.index-transformers-transformer.is ∙ ap (λ ts. get_or ts c.args.transformer row) c.transformers.ensures.value in
    get_or_default c.args.case.now.transformers c.args.transformer no_transformer row c.requires.place ∙ sym at

order : (c : goal.After-signed_effective) → AreAtMost (transformer_at c.args.case.now c.args.transformer)
order c =
    let row = c.index-transformers-transformer.result in
    let sound : IsSoundTransformer c.args.case.now row = search rules in
    subst (λ (t : Transformer). AreAtMost t) (sym (row_is c)) (weights_at_most c.args.case.now row sound)

volts_are : (c : goal.After-signed_effective) → c.effective_weights-weights.result.high_volts ≡ (transformer_at c.args.case.now c.args.transformer).high_volts
volts_are c = ap (λ (w : Weights). w.high_volts) c.effective_weights-weights.ensures.value

rated : (c : goal.After-signed_effective) → 1 ≤ c.effective_weights-weights.result.high_volts
rated c =
    let row = c.index-transformers-transformer.result in
    let sound : IsSoundTransformer c.args.case.now row = search rules in
    omega (arith, volts_are c, ap (λ (t : Transformer). t.high_volts) (row_is c), sound.rated.0)

sum_is : (c : goal.After-signed_effective) → (s : Solution) → let w = c.effective_weights-weights.result in
    weighted_sum w (current_in s w.first) (current_in s w.second) (current_in s w.third) ≡ effective_numerator c.args.case.now s c.args.transformer
sum_is c s = all_summed s c.effective_weights-weights.result ∙ sym (ap (sum_of (λ w. pos w.1 *ℤ s.current w.0.0)) c.effective_weights-weights.ensures.all)

pub returns : goal.returns
returns c =
    let stand = standing c.args.net.now in
    let volts = number_at c.args.volts.now in
    let xs = c.args.potentials.now in
    let w = c.effective_weights-weights.result in
    let one = c.winding_current-first in
    let other = c.winding_current-second in
    let last = c.winding_current-third in
    let result = c.signed_effective.result in
    let some : 0 < 3000000 * w.high_volts = omega (arith, rated c) in
    record {
      right = λ holds. record {
        holds = λ s solves.
            let first = winding_holds stand volts xs w.first one.result.lo one.result.hi s one.ensures.shown solves (holds s solves) in
            let second = winding_holds stand volts xs w.second other.result.lo other.result.hi s other.ensures.shown solves (holds s solves) in
            let third = winding_holds stand volts xs w.third last.result.lo last.result.hi s last.ensures.shown solves (holds s solves) in
            let exact = c.signed_effective.ensures.holds (current_in s w.first) (current_in s w.second) (current_in s w.third) s.denominator (record { in_first = first; in_second = second; in_third = third }) in
            subst₂ (λ (n : ℤ) (v : ℕ). Encloses result.lo result.hi n (3000000 * v * s.denominator)) (sum_is c s) (volts_are c) exact;
        zeroed = λ none.
            let sums = sums_zero stand volts xs (weighted_windings c.args.case.now c.args.transformer) w one.result.lo one.result.hi other.result.lo other.result.hi last.result.lo last.result.hi
            c.effective_weights-weights.ensures.all one.ensures.shown other.ensures.shown last.ensures.shown none in
            quotients_zero _ _ result.lo result.hi (3000000 * w.high_volts) some c.signed_effective.ensures.low c.signed_effective.ensures.high sums.0 sums.1;
      };
      narrow = λ width sharp.
          let most = weights_most (transformer_at c.args.case.now c.args.transformer) (windings_at (elements_of c.args.case.now) c.args.transformer) w (order c) c.effective_weights-weights.ensures.all in
          c.signed_effective.ensures.narrow width (omega (arith, most, volts_are c))
          (record {
            in_first = winding_narrow stand volts xs w.first one.result.lo one.result.hi width one.ensures.shown sharp;
            in_second = winding_narrow stand volts xs w.second other.result.lo other.result.hi width other.ensures.shown sharp;
            in_third = winding_narrow stand volts xs w.third last.result.lo last.result.hi width last.ensures.shown sharp;
          });
      small =
          let most = weights_most (transformer_at c.args.case.now c.args.transformer) (windings_at (elements_of c.args.case.now) c.args.transformer) w (order c) c.effective_weights-weights.ensures.all in
          fits (2 ^ 54) _ _ (omega arith) (c.signed_effective.ensures.weighed (omega (arith, most, volts_are c)));
    }
