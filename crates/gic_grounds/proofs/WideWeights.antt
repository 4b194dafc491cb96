-- A transformer's weights as voltages drive no potential far: there are three at most.
use Rattle.std.proofs.Common.{◌≡◌, ℕ, ◌*◌, ◌<◌, ◌≤◌, length, ℤ, unsigned_abs, mul-le-mul_left, mul-le-mul_right, arith, sym, subst}
use Rattle.std.proofs.Math.Path.{fun_ext}
use Rattle.std.specs.List.{sum_by}
use Rattle.gic_case.specs.Lists.{Lists}
use Rattle.gic_case.specs.Sound.{IsSound}
use Rattle.gic_exists.specs.Exists.{EarthedNetworksAreSolved}
use Rattle.gic_model.specs.Earthing.{AreEarthed}
use Rattle.gic_model.specs.Limits.{IsWithinLimits, most_wide_volts}
use Rattle.gic_net.specs.Net.{NetView, standing, stands}
use Rattle.gic_varied.specs.Reach.{PotentialsReachNoFurther, ListedWeightsAddUp}
use Rattle.gic_varied.specs.Reciprocal.{weights_from}
use Rattle.gic_winding.specs.Weights.{transformer_at, weighted_windings}
use Rattle.gic_grounds.specs.Scale.{most_weight_volts, weight_times}
use Rattle.gic_grounds.proofs.ReachedEnds.{Reaches}
use Rattle.gic_grounds.proofs.Weighing.{multiple_space, weights_sum}

-- over plain numbers: three weights of at most the greatest voltage
three_weights : (times sum high all d : ℕ) → all ≤ times * sum → sum ≤ 3 * high → times * high ≤ most_weight_volts → all * d ≤ most_wide_volts * d
three_weights times sum high all d listed most space =
    let scaled : times * sum ≤ times * (3 * high) = mul-le-mul_left times most in
    let small : all ≤ most_wide_volts = omega (arith, listed, scaled, space) in
    mul-le-mul_right d small

-- some solution for a transformer's weights reaches no further than the greatest voltage
pub weights_reach : (net : NetView) (c : Lists) (t unit : ℕ) (volts : ℕ → ℤ) → EarthedNetworksAreSolved → PotentialsReachNoFurther → ListedWeightsAddUp → IsSound c → IsWithinLimits net.network →
    t < length c.transformers → AreEarthed (standing net) →
    ((place : ℕ) → volts place ≡ weights_from (weight_times (transformer_at c t).high_volts unit) (weighted_windings c t) place) → Reaches (standing net) volts
weights_reach net c t unit volts exists reach listed sound limits inside earthed weights =
    let times = weight_times (transformer_at c t).high_volts unit in
    let found = exists net.network (stands net) volts limits earthed in
    let sums = subst (λ (f : ℕ → ℤ). sum_by (λ p. unsigned_abs (f p.0)) (standing net) ≤ times * sum_by (λ w. w.1) (weighted_windings c t)) (sym (fun_ext weights))
    (listed net.network (stands net) times (weighted_windings c t)) in
    let few = three_weights times (sum_by (λ w. w.1) (weighted_windings c t)) (transformer_at c t).high_volts (sum_by (λ p. unsigned_abs (volts p.0)) (standing net)) found.solution.denominator sums
    (weights_sum c t sound inside) (multiple_space (transformer_at c t).high_volts unit) in
    record {
      solution = found.solution;
      solves = found.solves;
      within = λ k live. let most = reach net.network (stands net) volts found.solution k limits earthed found.solves live in omega (arith, most, few);
    }
