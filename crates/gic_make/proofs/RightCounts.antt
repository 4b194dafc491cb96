-- The counts of the verdicts of a solved view are right.
use Rattle.std.proofs.Common.{◌≡◌, ◌∙◌, ℕ, ◌*◌, ◌<◌, ◌≤◌, inl, inr, Bool, true, not, List, length, ℤ, pos, ◌-ℤ◌, ◌<ℤ◌, ◌≤ℤ◌, unsigned_abs, refl, sym, subst, arith}
use Rattle.std.specs.Prelude.{nat_lt, nat_le}
use Rattle.std.proofs.lemmas.Bool.{and_parts, and_from, cases_lt}
use Rattle.std.proofs.lemmas.Bool.Decides.{nat_tests}
use Rattle.std.proofs.lemmas.Int.{ints}
use Rattle.gic_case.specs.Lists.{Lists, has_effect}
use Rattle.gic_case.specs.Sound.{IsSound}
use Rattle.gic_fixed.specs.Encloses.{EnclosesAbsolute}
use Rattle.gic_fixed.proofs.Enclosures.{Encloses-abs}
use Rattle.gic_model.specs.Solution.{Solution, IsSolution}
use Rattle.gic_model.specs.Sums.{Placed}
use Rattle.gic_effective.specs.Weighted.{effective_numerator, effective_denominator}
use Rattle.gic_report.specs.VerdictText.{is_judged, verdict_at}
use Rattle.gic_view.specs.Absolute.{absolute_ends}
use Rattle.gic_report.proofs.Absolutes.{absolute_narrow}
use Rattle.gic_report.proofs.CountedVerdicts.{total_at, is_below, is_reaching, is_undecided, is_outside, is_below_so, is_reaching_so, is_undecided_so, below_step, reaches_step, undecided_step, outside_step, count_le, counted_at}
use Rattle.gic_criteria.specs.declared.criterion.Verdict.{Verdict}
use Rattle.gic_criteria.specs.declared.criterion.Verdict.TheVariants.{Undecided}
use Rattle.gic_criteria.specs.VerdictLaws.{BelowIsUnder, ReachesIsAtLeast}
use Rattle.gic_view.specs.View.{View, effective_at}
use Rattle.gic_winding.specs.Weights.{transformer_at}
use Rattle.gic_uniform.specs.Solving.{IsSolvedView}
use Rattle.gic_uniform.proofs.Denominators.{some_denominator}
use Rattle.gic_make.specs.declared.solving.TheConstants.{WIDTH}
use Rattle.gic_report.specs.Counts.{counts_of}
use Rattle.gic_make.specs.Counting.{verdicts_of}
use Rattle.gic_make.specs.RightMake.{benchmark_threshold, surely_below, surely_reached, is_judged_under, is_judged_at_least, is_near, TellOf, AreRightCounts}
use Rattle.gic_make.proofs.Verdicts.{low_under, high_over, says_below, says_reaches, below_judged, reaches_judged, undecided_judged, outside_is}

less_so : (a b : ℕ) → a < b → nat_lt a b ≡ true
less_so a b h = grind (arith, nat_tests, h)

so_less : (a b : ℕ) → nat_lt a b ≡ true → a < b
so_less a b h = grind (arith, nat_tests, h)

most_so : (a b : ℕ) → a ≤ b → nat_le a b ≡ true
most_so a b h = grind (arith, nat_tests, h)

so_most : (a b : ℕ) → nat_le a b ≡ true → a ≤ b
so_most a b h = grind (arith, nat_tests, h)

module _ (below_law : BelowIsUnder) (reaches_law : ReachesIsAtLeast) (case : Lists) (standing : List Placed) (volts : ℕ → ℤ) (view : View)
    (sound : IsSound case) (solved : IsSolvedView case standing volts WIDTH view) where
  -- the ends of a transformer's absolute interval, and what its verdict looks at
  abbrev lo : ℕ → ℤ
  lo t = (absolute_ends (effective_at view t)).low

  abbrev hi : ℕ → ℤ
  hi t = (absolute_ends (effective_at view t)).high

  abbrev high_volts : ℕ → ℕ
  high_volts t = (transformer_at case t).high_volts

  abbrev earthed : ℕ → Bool
  earthed t = has_effect (transformer_at case t).kind

  narrow : (t : ℕ) → t < length case.transformers → (hi t -ℤ lo t) ≤ℤ pos WIDTH
  narrow t within = absolute_narrow (effective_at view t).low (effective_at view t).high WIDTH (solved.narrow.effective t within)

  module _ (s : Solution) (solves : IsSolution standing volts s) where
    holds : (t : ℕ) → t < length case.transformers → EnclosesAbsolute (lo t) (hi t) (effective_numerator case s t) (effective_denominator case t s)
    holds t within =
        Encloses-abs (effective_at view t).low (effective_at view t).high (effective_numerator case s t) (effective_denominator case t s)
        ((solved.right.effective t within).holds s solves)

    some : (t : ℕ) → t < length case.transformers → 0 < effective_denominator case t s
    some t within = some_denominator case t s sound within solves.denominator_above_0

    below_is_under : (t : ℕ) → t < length case.transformers → is_below (verdict_at case benchmark_threshold view t) ≡ true → is_judged_under case s benchmark_threshold t ≡ true
    below_is_under t within said =
        let verdict = is_below_so (verdict_at case benchmark_threshold view t) said in
        and_from (is_judged case t) _ (below_judged (lo t) (hi t) benchmark_threshold (high_volts t) (earthed t) verdict)
        (less_so _ _ (below_law (lo t) (hi t) (effective_numerator case s t) (effective_denominator case t s) benchmark_threshold (high_volts t) (earthed t) (some t within) verdict (holds t within).below_hi))

    under_is_below : (t : ℕ) → t < length case.transformers → is_judged_under case s surely_below t ≡ true → is_below (verdict_at case benchmark_threshold view t) ≡ true
    under_is_below t within under =
        let parts = and_parts (is_judged case t) _ under in
        let low = low_under (lo t) (unsigned_abs (effective_numerator case s t)) (effective_denominator case t s) surely_below (holds t within).above_lo (so_less _ _ parts.1) in
        let high : hi t <ℤ pos benchmark_threshold = omega (arith, ints, low, narrow t within) in
        let verdict = says_below (lo t) (hi t) benchmark_threshold (high_volts t) (earthed t) parts.0 (omega (arith, ints, low)) high in
        subst (λ (v : Verdict). is_below v ≡ true) (sym verdict) refl

    reaches_is_at_least : (t : ℕ) → t < length case.transformers → is_reaching (verdict_at case benchmark_threshold view t) ≡ true → is_judged_at_least case s benchmark_threshold t ≡ true
    reaches_is_at_least t within said =
        let verdict = is_reaching_so (verdict_at case benchmark_threshold view t) said in
        and_from (is_judged case t) _ (reaches_judged (lo t) (hi t) benchmark_threshold (high_volts t) (earthed t) verdict)
        (most_so _ _ (reaches_law (lo t) (hi t) (effective_numerator case s t) (effective_denominator case t s) benchmark_threshold (high_volts t) (earthed t) verdict (holds t within).above_lo))

    at_least_is_reaches : (t : ℕ) → t < length case.transformers → is_judged_at_least case s surely_reached t ≡ true → is_reaching (verdict_at case benchmark_threshold view t) ≡ true
    at_least_is_reaches t within least =
        let parts = and_parts (is_judged case t) _ least in
        let high = high_over (hi t) (unsigned_abs (effective_numerator case s t)) (effective_denominator case t s) surely_reached (some t within) (holds t within).below_hi (so_most _ _ parts.1) in
        let low : pos benchmark_threshold ≤ℤ lo t = omega (arith, ints, high, narrow t within) in
        let verdict = says_reaches (lo t) (hi t) benchmark_threshold (high_volts t) (earthed t) parts.0 low in
        subst (λ (v : Verdict). is_reaching v ≡ true) (sym verdict) refl

    -- neither under the lower number, where it would be below, nor at the upper one or more, where it would reach
    not_below : (t : ℕ) → verdict_at case benchmark_threshold view t ≡ Undecided → is_below (verdict_at case benchmark_threshold view t) ≡ true → ⊥
    not_below t is said = let nothing : is_below Undecided ≡ true = subst (λ (v : Verdict). is_below v ≡ true) is said in absurd (cc)

    not_reaching : (t : ℕ) → verdict_at case benchmark_threshold view t ≡ Undecided → is_reaching (verdict_at case benchmark_threshold view t) ≡ true → ⊥
    not_reaching t is said = let nothing : is_reaching Undecided ≡ true = subst (λ (v : Verdict). is_reaching v ≡ true) is said in absurd (cc)

    undecided_is_near : (t : ℕ) → t < length case.transformers → is_undecided (verdict_at case benchmark_threshold view t) ≡ true → is_near case s t ≡ true
    undecided_is_near t within said =
        let verdict = is_undecided_so (verdict_at case benchmark_threshold view t) said in
        let judged = undecided_judged (lo t) (hi t) benchmark_threshold (high_volts t) (earthed t) verdict in
        let n = unsigned_abs (effective_numerator case s t) in
        let d = effective_denominator case t s in
        let least : surely_below * d ≤ n = elim (cases_lt n (surely_below * d)) [
          | inl under ↦ absurd (not_below t verdict (under_is_below t within (and_from (is_judged case t) _ judged (less_so _ _ under))))
          | inr over ↦ over
        ] in
        let most : n < surely_reached * d = elim (cases_lt n (surely_reached * d)) [
          | inl under ↦ under
          | inr over ↦ absurd (not_reaching t verdict (at_least_is_reaches t within (and_from (is_judged case t) _ judged (most_so _ _ over))))
        ] in
        and_from (is_judged_at_least case s surely_below t) _ (and_from (is_judged case t) _ judged (most_so _ _ least)) (and_from (is_judged case t) _ judged (less_so _ _ most))

    tell : TellOf case s (counts_of (verdicts_of case benchmark_threshold view))
    tell =
        let count = length case.transformers in
        let said : ℕ → Verdict = verdict_at case benchmark_threshold view in
        let below = counted_at (λ counts. counts.below) is_below below_step refl said count in
        let reaches = counted_at (λ counts. counts.reaches) is_reaching reaches_step refl said count in
        let undecided = counted_at (λ counts. counts.undecided) is_undecided undecided_step refl said count in
        record {
          below_most = omega (arith, below, count_le (λ t. is_below (said t)) (is_judged_under case s benchmark_threshold) 0 count (λ t within. below_is_under t (omega (arith, within))));
          below_least = omega (arith, below, count_le (is_judged_under case s surely_below) (λ t. is_below (said t)) 0 count (λ t within. under_is_below t (omega (arith, within))));
          reaches_most = omega (arith, reaches, count_le (λ t. is_reaching (said t)) (is_judged_at_least case s benchmark_threshold) 0 count (λ t within. reaches_is_at_least t (omega (arith, within))));
          reaches_least = omega (arith, reaches, count_le (is_judged_at_least case s surely_reached) (λ t. is_reaching (said t)) 0 count (λ t within. at_least_is_reaches t (omega (arith, within))));
          undecided_most = omega (arith, undecided, count_le (λ t. is_undecided (said t)) (is_near case s) 0 count (λ t within. undecided_is_near t (omega (arith, within))));
        }

  outside_so : (t : ℕ) → is_outside (verdict_at case benchmark_threshold view t) ≡ not (is_judged case t)
  outside_so t = outside_is (lo t) (hi t) benchmark_threshold (high_volts t) (earthed t)

  pub right_counts : AreRightCounts case standing volts (counts_of (verdicts_of case benchmark_threshold view))
  right_counts =
      let count = length case.transformers in
      let said : ℕ → Verdict = verdict_at case benchmark_threshold view in
      let outside = counted_at (λ counts. counts.outside) is_outside outside_step refl said count in
      let most = count_le (λ t. is_outside (said t)) (λ t. not (is_judged case t)) 0 count (λ t within h. sym (outside_so t) ∙ h) in
      let least = count_le (λ t. not (is_judged case t)) (λ t. is_outside (said t)) 0 count (λ t within h. outside_so t ∙ h) in
      record {
        all = total_at said count;
        outside = omega (arith, outside, most, least);
        of_solutions = tell;
      }
