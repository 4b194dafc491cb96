-- What follows of right outages.
use Rattle.std.proofs.Common.{◌≡◌, ℕ, ◌+◌, ◌-◌, ◌<◌, Bool, List, length, Option, None, Some, ℤ, pos, ◌-ℤ◌, ◌<ℤ◌, ◌≤ℤ◌, refl, sym, subst, ◌∙◌, arith}
use Rattle.std.specs.Prelude.{IfSome}
use Rattle.std.proofs.lemmas.Grind.{common_steps}
use Rattle.std.proofs.lemmas.Int.{ints}
use Rattle.gic_case.specs.Sound.{IsSound}
use Rattle.gic_effective.specs.Narrow.{IsNoWider}
use Rattle.gic_effective.specs.Weighted.{effective_numerator, effective_denominator}
use Rattle.gic_fixed.specs.Ends.{Ends}
use Rattle.gic_model.specs.declared.parts.Item.{Item}
use Rattle.gic_case.specs.Lists.{has_effect}
use Rattle.gic_criteria.specs.declared.criterion.Verdict.TheVariants.{Below, Reaches, Undecided}
use Rattle.gic_criteria.specs.Verdict.{verdict_of}
use Rattle.gic_criteria.specs.VerdictLaws.{UndecidedIsAcross, WorstBelowIsUnder, WorstReachesIsAtLeast}
use Rattle.gic_criteria.proofs.Judged.{worst_under, worst_at_least}
use Rattle.gic_uniform.proofs.Denominators.{some_denominator}
use Rattle.gic_worst.specs.RightRows.{IsTrueVerdict, IsWorstUnder, worst_verdict_at}
use Rattle.gic_worst.proofs.RightRows.{verdict_true}
use Rattle.gic_criteria.specs.declared.asked.Criteria.{Criteria}
use Rattle.gic_inputs.specs.declared.inputs.Inputs.{Inputs}
use Rattle.gic_winding.specs.Weights.{transformer_at}
use Rattle.gic_outage.specs.Outages.{Outage, standing_in_outage, worst_at, worsts_of, greatest_worst}
use Rattle.gic_outage.specs.RightOutage.{northward_volts, eastward_volts, threshold_asked, AreRightOutages}
use Rattle.gic_outage.specs.Follows.{IsSolvedOutage, IsWorstAtLeastOnce, IsTrueOverOutages, IsWorstUpTo, IsWorstFrom, EnclosesGreatestWorst, GreatestWorstIsEnclosed, GreatestVerdictIsTrue, GreatestUndecidedIsNear, WorstVerdictIsTrue, UndecidedAreAtMostNear}
use Rattle.gic_outage.proofs.Greatest.{AreGreatest, AreGreatestOf, all_greatest, greatest_narrow}
use Rattle.gic_outage.proofs.Squared.{up_to, no_less}
use Rattle.gic_outage.proofs.CountedNear.{few_undecided}
use Rattle.gic_outage.proofs.Shown.{IsRightOne, as_worst, shown_there, shows}

-- a verdict of an interval is that of one that doesn't end above it, or doesn't begin below it
module _ (low high low' high' : ℤ) (threshold high_volts : ℕ) (earthed : Bool) where
  below_too : low' ≤ℤ high' → high' ≤ℤ high → verdict_of low high threshold high_volts earthed ≡ Below → verdict_of low' high' threshold high_volts earthed ≡ Below
  below_too ordered most said = grind (arith, common_steps, ordered, most, said)

  reaches_too : low ≤ℤ low' → verdict_of low high threshold high_volts earthed ≡ Reaches → verdict_of low' high' threshold high_volts earthed ≡ Reaches
  reaches_too least said = grind (arith, common_steps, least, said)

-- an interval across the threshold that is no wider than this: what begins with it begins within one width of the threshold, and so ends what doesn't end above it
begins_near : (low high begins : ℤ) (threshold width : ℕ) → low ≡ begins → pos 0 ≤ℤ begins → pos threshold ≤ℤ high → (high -ℤ low) ≤ℤ pos width → pos (threshold - width) ≤ℤ begins
begins_near low high begins threshold width is sign across narrow = omega (arith, ints, is, sign, across, narrow)

ends_near : (low high ends : ℤ) (threshold width : ℕ) → ends ≤ℤ high → low <ℤ pos threshold → (high -ℤ low) ≤ℤ pos width → ends <ℤ pos (threshold + width)
ends_near low high ends threshold width most across narrow = omega (arith, ints, most, across, narrow)

are_greatest : (outages : List Outage) (t : ℕ) (e : Ends) → greatest_worst (worsts_of outages t) ≡ Some e → AreGreatest (worsts_of outages t) e
are_greatest outages t e is = subst (AreGreatestOf (worsts_of outages t)) is (all_greatest (worsts_of outages t))

if_some : (o : Option Ends) (P : Ends → Type 0) → ((e : Ends) → o ≡ Some e → P e) → IfSome o P
if_some None P h = tt
if_some (Some e) P h = h e refl

-- the worst current is at most a greater high end, and at least an equal low end
under_high : (inputs : Inputs Criteria) (item : Item) (t : ℕ) (w e : Ends) → IsRightOne inputs item t w → w.high ≤ℤ e.high →
    IsWorstUpTo inputs.case (standing_in_outage inputs item) (northward_volts inputs) (eastward_volts inputs) e.high t
under_high inputs item t w e right most one other solve =
    up_to w.low w.high e.high (effective_numerator inputs.case one t) (effective_denominator inputs.case t one) (effective_numerator inputs.case other t) (effective_denominator inputs.case t other)
    right.in_order most (right.holds one other solve)

above_low : (inputs : Inputs Criteria) (item : Item) (t : ℕ) (w e : Ends) → IsRightOne inputs item t w → e.low ≡ w.low →
    IsWorstFrom inputs.case (standing_in_outage inputs item) (northward_volts inputs) (eastward_volts inputs) e.low t
above_low inputs item t w e right begins one other solve =
    no_less w.low w.high e.low (effective_numerator inputs.case one t) (effective_denominator inputs.case t one) (effective_numerator inputs.case other t) (effective_denominator inputs.case t other)
    begins (right.holds one other solve)

module _ (inputs : Inputs Criteria) (outages : List Outage) (are_right : AreRightOutages inputs outages) where
  encloses : (t : ℕ) (e : Ends) → t < length inputs.case.transformers → AreGreatest (worsts_of outages t) e → EnclosesGreatestWorst inputs t e
  encloses t e within are =
      let own = shown_there inputs outages are_right t are.place are.shown within are.is in
      record {
        most = λ item solved. let there = shows inputs outages are_right t within item solved in
            under_high inputs item t there.w e there.right (are.most there.place there.w there.shown);
        item = own.item;
        solved = own.solved;
        least = above_low inputs own.item t are.shown e own.right are.begins;
      }

  pub no_wider : (t : ℕ) → t < length inputs.case.transformers → IsNoWider inputs.question.width (greatest_worst (worsts_of outages t))
  no_wider t within = greatest_narrow inputs.question.width (worsts_of outages t) (λ place w is. (shown_there inputs outages are_right t place w within is).right.narrow)

  pub no_none : (t : ℕ) → t < length inputs.case.transformers → greatest_worst (worsts_of outages t) ≡ None → (item : Item) → ¬ IsSolvedOutage inputs item
  no_none t within is item solved =
      let own = shows inputs outages are_right t within item solved in
      let nothing : None ≡ Some own.w = sym (subst (AreGreatestOf (worsts_of outages t)) is (all_greatest (worsts_of outages t)) own.place) ∙ own.shown in
      absurd (cc)

-- of a sound case, the verdict on a right worst interval is true
module _ (across : UndecidedIsAcross) (under : WorstBelowIsUnder) (at_least : WorstReachesIsAtLeast) (inputs : Inputs Criteria) (sound : IsSound inputs.case) where
  true_here : (item : Item) (t : ℕ) (w : Ends) → t < length inputs.case.transformers → IsRightOne inputs item t w →
      IsTrueVerdict inputs.case (standing_in_outage inputs item) (northward_volts inputs) (eastward_volts inputs) (threshold_asked inputs) t w
  true_here item t w = verdict_true across under at_least inputs.case (standing_in_outage inputs item) (northward_volts inputs) (eastward_volts inputs) (threshold_asked inputs) inputs.question.width t w sound

  module _ (outages : List Outage) (are_right : AreRightOutages inputs outages) where
    under_all : (t : ℕ) (e : Ends) → t < length inputs.case.transformers → AreGreatest (worsts_of outages t) e → worst_verdict_at inputs.case (threshold_asked inputs) t e ≡ Below → (item : Item) → IsSolvedOutage inputs item →
        IsWorstUnder inputs.case (standing_in_outage inputs item) (northward_volts inputs) (eastward_volts inputs) (threshold_asked inputs) t
    under_all t e within are said item solved =
        let own = shows inputs outages are_right t within item solved in
        let row = transformer_at inputs.case t in
        (true_here item t own.w within own.right).below
        (below_too e.low e.high own.w.low own.w.high (threshold_asked inputs) row.high_volts (has_effect row.kind) own.right.in_order (are.most own.place own.w own.shown) said)

    at_least_once : (t : ℕ) (e : Ends) → t < length inputs.case.transformers → AreGreatest (worsts_of outages t) e → worst_verdict_at inputs.case (threshold_asked inputs) t e ≡ Reaches → IsWorstAtLeastOnce inputs (threshold_asked inputs) t
    at_least_once t e within are said =
        let own = shown_there inputs outages are_right t are.place are.shown within are.is in
        let row = transformer_at inputs.case t in
        record {
          item = own.item;
          solved = own.solved;
          at_least = (true_here own.item t are.shown within own.right).reaches (reaches_too e.low e.high are.shown.low are.shown.high (threshold_asked inputs) row.high_volts (has_effect row.kind) (omega (arith, ints, are.begins)) said);
        }

    near_once : (t : ℕ) (e : Ends) → t < length inputs.case.transformers → AreGreatest (worsts_of outages t) e → IsNoWider inputs.question.width (Some e) → pos (threshold_asked inputs) ≤ℤ e.high →
        IsWorstAtLeastOnce inputs (threshold_asked inputs - inputs.question.width) t
    near_once t e within are narrow high =
        let own = shown_there inputs outages are_right t are.place are.shown within are.is in
        let w = are.shown in
        record {
          item = own.item;
          solved = own.solved;
          at_least = λ one other solve. let holds = own.right.holds one other solve in
              worst_at_least w.low w.high (effective_numerator inputs.case one t) (effective_denominator inputs.case t one) (effective_numerator inputs.case other t) (effective_denominator inputs.case t other)
              (threshold_asked inputs - inputs.question.width)
              (begins_near e.low e.high w.low (threshold_asked inputs) inputs.question.width are.begins holds.not_negative high narrow) holds;
        }

    near_all : (t : ℕ) (e : Ends) → t < length inputs.case.transformers → AreGreatest (worsts_of outages t) e → IsNoWider inputs.question.width (Some e) → e.low <ℤ pos (threshold_asked inputs) → (item : Item) → IsSolvedOutage inputs item →
        IsWorstUnder inputs.case (standing_in_outage inputs item) (northward_volts inputs) (eastward_volts inputs) (threshold_asked inputs + inputs.question.width) t
    near_all t e within are narrow low item solved one other solve =
        let own = shows inputs outages are_right t within item solved in
        worst_under own.w.low own.w.high (effective_numerator inputs.case one t) (effective_denominator inputs.case t one) (effective_numerator inputs.case other t) (effective_denominator inputs.case t other)
        (threshold_asked inputs + inputs.question.width)
        (some_denominator inputs.case t one sound within solve.in_north.denominator_above_0) (some_denominator inputs.case t other sound within solve.in_east.denominator_above_0)
        own.right.in_order (ends_near e.low e.high own.w.high (threshold_asked inputs) inputs.question.width (are.most own.place own.w own.shown) low narrow) (own.right.holds one other solve)

    true_over : (t : ℕ) (e : Ends) → t < length inputs.case.transformers → AreGreatest (worsts_of outages t) e → IsTrueOverOutages inputs (threshold_asked inputs) t e
    true_over t e within are = record {
      below = under_all t e within are;
      reaches = at_least_once t e within are;
      undecided = λ said. across e.low e.high (threshold_asked inputs) (transformer_at inputs.case t).high_volts (has_effect (transformer_at inputs.case t).kind) said;
    }

-- the clauses of the theorem
pub greatest_enclosed : GreatestWorstIsEnclosed
greatest_enclosed inputs outages are_right t within =
    if_some (greatest_worst (worsts_of outages t)) (EnclosesGreatestWorst inputs t) (λ e is. encloses inputs outages are_right t e within (are_greatest outages t e is))

pub verdicts_true : UndecidedIsAcross → WorstBelowIsUnder → WorstReachesIsAtLeast → GreatestVerdictIsTrue
verdicts_true across under at_least inputs outages sound are_right t within =
    if_some (greatest_worst (worsts_of outages t)) (IsTrueOverOutages inputs (threshold_asked inputs) t)
    (λ e is. true_over across under at_least inputs sound outages are_right t e within (are_greatest outages t e is))

pub undecided_near_over : UndecidedIsAcross → WorstBelowIsUnder → WorstReachesIsAtLeast → GreatestUndecidedIsNear
undecided_near_over across under at_least inputs outages sound are_right t within e is said =
    let are = are_greatest outages t e is in
    let narrow : IsNoWider inputs.question.width (Some e) = subst (IsNoWider inputs.question.width) is (no_wider inputs outages are_right t within) in
    let ends = across e.low e.high (threshold_asked inputs) (transformer_at inputs.case t).high_volts (has_effect (transformer_at inputs.case t).kind) said in (
      near_once across under at_least inputs sound outages are_right t e within are narrow ends.1,
      near_all across under at_least inputs sound outages are_right t e within are narrow ends.0,
    )

pub each_verdict_true : UndecidedIsAcross → WorstBelowIsUnder → WorstReachesIsAtLeast → WorstVerdictIsTrue
each_verdict_true across under at_least inputs item worsts counts sound are_right t within =
    true_here across under at_least inputs sound item t (worst_at worsts t) within (as_worst inputs item t (worst_at worsts t) (are_right.right t within))

pub undecided_near : UndecidedAreAtMostNear
undecided_near inputs item worsts counts sound are_right one other solve =
    few_undecided inputs.case (standing_in_outage inputs item) (northward_volts inputs) (eastward_volts inputs) (threshold_asked inputs) inputs.question.width worsts sound
    (λ t within. as_worst inputs item t (worst_at worsts t) (are_right.right t within)) one other solve counts are_right.counted
