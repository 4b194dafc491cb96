-- What is counted undecided: worst currents within one width of the threshold.
use Rattle.std.proofs.Common.{◌≡◌, ◌∙◌, ℕ, ◌+◌, ◌-◌, ◌<◌, ◌≤◌, Bool, true, List, length, ℤ, pos, ◌-ℤ◌, ◌<ℤ◌, ◌≤ℤ◌, refl, ap, arith}
use Rattle.std.specs.Prelude.{nat_lt, nat_le}
use Rattle.std.proofs.lemmas.Bool.{and_from}
use Rattle.std.proofs.lemmas.Bool.Decides.{nat_tests}
use Rattle.std.proofs.lemmas.Grind.{common_steps}
use Rattle.std.proofs.lemmas.Int.{ints}
use Rattle.gic_case.specs.Lists.{Lists, has_effect}
use Rattle.gic_case.specs.Sound.{IsSound}
use Rattle.gic_effective.specs.Weighted.{effective_numerator, effective_denominator}
use Rattle.gic_fixed.specs.Ends.{Ends}
use Rattle.gic_model.specs.Solution.{Solution}
use Rattle.gic_model.specs.Sums.{Placed}
use Rattle.gic_report.specs.declared.counts.Counts.{Counts}
use Rattle.gic_report.specs.Counts.{counts_of, transformers_with}
use Rattle.gic_report.specs.VerdictText.{is_judged}
use Rattle.gic_report.proofs.CountedVerdicts.{is_undecided, is_undecided_so, undecided_step, count_le, counted_at}
use Rattle.gic_criteria.specs.declared.criterion.Verdict.{Verdict}
use Rattle.gic_criteria.specs.declared.criterion.Verdict.TheVariants.{Undecided}
use Rattle.gic_criteria.specs.Verdict.{is_assessed, verdict_of}
use Rattle.gic_criteria.proofs.Judged.{worst_under, worst_at_least}
use Rattle.gic_worst.specs.RightRows.{AreSolutionsOf, IsRightWorst, squared_worst, squared_threshold, worst_verdict_at}
use Rattle.gic_uniform.proofs.Denominators.{some_denominator}
use Rattle.gic_winding.specs.Weights.{transformer_at}
use Rattle.gic_outage.specs.Outages.{worst_at}
use Rattle.gic_outage.specs.RightOutage.{worst_verdicts}
use Rattle.gic_outage.specs.Follows.{is_worst_near}

undecided_judged : (lo hi : ℤ) (threshold high_volts : ℕ) (earthed : Bool) → verdict_of lo hi threshold high_volts earthed ≡ Undecided → is_assessed high_volts earthed ≡ true
undecided_judged lo hi threshold high_volts earthed said = grind (arith, common_steps, said)

undecided_low : (lo hi : ℤ) (threshold high_volts : ℕ) (earthed : Bool) → verdict_of lo hi threshold high_volts earthed ≡ Undecided → lo <ℤ pos threshold
undecided_low lo hi threshold high_volts earthed said = grind (arith, common_steps, said)

undecided_high : (lo hi : ℤ) (threshold high_volts : ℕ) (earthed : Bool) → verdict_of lo hi threshold high_volts earthed ≡ Undecided → pos threshold ≤ℤ hi
undecided_high lo hi threshold high_volts earthed said = grind (arith, common_steps, said)

-- an interval across the threshold that is no wider than this begins and ends within one width of it
from_below : (lo hi : ℤ) (threshold width : ℕ) → pos 0 ≤ℤ lo → pos threshold ≤ℤ hi → (hi -ℤ lo) ≤ℤ pos width → pos (threshold - width) ≤ℤ lo
from_below lo hi threshold width sign high narrow = omega (arith, ints, sign, high, narrow)

to_above : (lo hi : ℤ) (threshold width : ℕ) → lo <ℤ pos threshold → (hi -ℤ lo) ≤ℤ pos width → hi <ℤ pos (threshold + width)
to_above lo hi threshold width low narrow = omega (arith, ints, low, narrow)

less_so : (a b : ℕ) → a < b → nat_lt a b ≡ true
less_so a b h = grind (arith, nat_tests, h)

most_so : (a b : ℕ) → a ≤ b → nat_le a b ≡ true
most_so a b h = grind (arith, nat_tests, h)

module _ (case : Lists) (standing : List Placed) (north east : ℕ → ℤ) (threshold width : ℕ) (worsts : List Ends) (sound : IsSound case)
    (right : (t : ℕ) → t < length case.transformers → IsRightWorst case standing north east width t (worst_at worsts t))
    (one other : Solution) (solve : AreSolutionsOf standing north east one other) where
  abbrev said : ℕ → Verdict
  said t = worst_verdict_at case threshold t (worst_at worsts t)

  undecided_is_near : (t : ℕ) → t < length case.transformers → is_undecided (said t) ≡ true → is_worst_near case width threshold one other t ≡ true
  undecided_is_near t within undecided =
      let w = worst_at worsts t in
      let high_volts = (transformer_at case t).high_volts in
      let earthed = has_effect (transformer_at case t).kind in
      let n = effective_numerator case one t in
      let d = effective_denominator case t one in
      let m = effective_numerator case other t in
      let e = effective_denominator case t other in
      let is = is_undecided_so (said t) undecided in
      let judged = undecided_judged w.low w.high threshold high_volts earthed is in
      let low = undecided_low w.low w.high threshold high_volts earthed is in
      let high = undecided_high w.low w.high threshold high_volts earthed is in
      let own = right t within in
      let holds = own.holds one other solve in
      let least = worst_at_least w.low w.high n d m e (threshold - width) (from_below w.low w.high threshold width holds.not_negative high own.narrow) holds in
      let most = worst_under w.low w.high n d m e (threshold + width)
      (some_denominator case t one sound within solve.in_north.denominator_above_0) (some_denominator case t other sound within solve.in_east.denominator_above_0)
      own.in_order (to_above w.low w.high threshold width low own.narrow) holds in
      and_from (is_judged case t) _ judged (and_from (nat_le (squared_threshold case (threshold - width) t one other) (squared_worst case t one other)) _ (most_so _ _ least) (less_so _ _ most))

  pub few_undecided : (counts : Counts) → counts ≡ counts_of (worst_verdicts case threshold worsts) → counts.undecided ≤ transformers_with case (is_worst_near case width threshold one other)
  few_undecided counts counted =
      let many = length case.transformers in
      let number = ap (λ (c : Counts). c.undecided) counted ∙ counted_at (λ (c : Counts). c.undecided) is_undecided undecided_step refl said many in
      let most = count_le (λ t. is_undecided (said t)) (is_worst_near case width threshold one other) 0 many (λ t within. undecided_is_near t (omega (arith, within))) in
      omega (arith, number, most)
