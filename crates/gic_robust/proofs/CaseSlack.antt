-- The slack of a transformer's current in a field: at most nine milliamperes, whatever the case.
use Rattle.std.proofs.Common.{ℕ, ◌*◌, ◌<◌, ◌≤◌, Bool, true, false, cond, List, [], ◌∷◌, length, ℤ, arith, mul-le-mul_left}
use Rattle.std.proofs.lemmas.List.Elements.{All-get_or}
use Rattle.std.proofs.lemmas.List.FromFn.{length-enumerate_from}
use Rattle.std.specs.List.{filter, enumerate_from, sum_by}
use Rattle.gic_case.specs.Sound.{IsSoundTransformer}
use Rattle.gic_model.specs.Standing.{stands_after}
use Rattle.gic_model.specs.Sums.{Placed}
use Rattle.gic_varied.specs.Grounds.{is_ground, grounds_among}
use Rattle.gic_varied.specs.Near.{slack, current_unit}
use Rattle.gic_varied.specs.Reach.{ListedWeightsAddUp}
use Rattle.gic_varied.specs.Sizes.{volt_sum, sizes_of_sums}
use Rattle.gic_winding.specs.ElementList.{elements_of}
use Rattle.gic_winding.specs.Weights.{transformer_at, no_transformer, weighted_windings}
use Rattle.gic_grounds.specs.Scale.{weight_times}
use Rattle.gic_grounds.specs.Tolerated.{Tolerated, own_in}
use Rattle.gic_grounds.proofs.Weighing.{weights_sum}
use Rattle.gic_robust.specs.Resolution.{weights_in, units_in, IsStudiedIn}
use Rattle.gic_robust.proofs.LineSums.{line_sum}
use Rattle.gic_robust.proofs.SmallSlack.{small_slack}

-- a filter keeps no more
kept_most : {X : Type 0} (test : X → Bool) (xs : List X) → length (filter test xs) ≤ length xs
kept_most test [] = omega arith
kept_most test (x ∷ xs) = by (test x) (kept_most test xs)
  where
    by : (b : Bool) → length (filter test xs) ≤ length xs → length (cond b (x ∷ filter test xs) (filter test xs)) ≤ length (x ∷ xs)
    by true rest = omega (arith, rest)
    by false rest = omega (arith, rest)

-- no case has more grounds than elements
grounds_few : (v : Tolerated) (volts : ℕ → ℤ) → IsStudiedIn v volts → length (grounds_among (own_in v)) ≤ 65536
grounds_few v volts studied =
    let list = (elements_of v.case).list in
    let grounds = kept_most (λ p. is_ground p.1) (own_in v) in
    let standing = kept_most (λ (p : Placed). stands_after v.rows p.1.item) (enumerate_from 0 list) in
    omega (arith, grounds, standing, length-enumerate_from 0 list, studied.limits.few_elements)

pub case_slack : ListedWeightsAddUp → (v : Tolerated) (volts : ℕ → ℤ) (unit t : ℕ) → t < length v.case.transformers → 0 < unit → unit ≤ 20 → IsStudiedIn v volts →
    slack (units_in v unit t) (sizes_of_sums (own_in v) volts (weights_in v unit t)) ≤ 9000000 * current_unit (units_in v unit t)
case_slack listed v volts unit t inside some few studied =
    let high = (transformer_at v.case t).high_volts in
    let times = weight_times high unit in
    let rated = (All-get_or (IsSoundTransformer v.case) v.case.transformers t no_transformer inside studied.sound.transformers_sound).rated in
    let most : times * sum_by (λ w. w.1) (weighted_windings v.case t) ≤ times * (3 * high) = mul-le-mul_left times (weights_sum v.case t studied.sound inside) in
    let weights : volt_sum (own_in v) (weights_in v unit t) ≤ 3 * (times * high) = omega (arith, listed (elements_of v.case) (stands_after v.rows) times (weighted_windings v.case t), most) in
    small_slack (own_in v) volts (weights_in v unit t) high unit (omega (arith, rated.0)) rated.1 some few
    (line_sum v volts studied.sound studied.volts_limit studied.lines_alone) weights (grounds_few v volts studied)
