-- Rows of two solved views are right, and the verdicts on right worst intervals are true.
use Rattle.std.proofs.Common.{◌≡◌, ℕ, ◌*◌, ◌<◌, ◌≤◌, List, length, ℤ, pos, arith, sym, subst, subst₂}
use Rattle.std.proofs.lemmas.Int.{ints}
use Rattle.gic_case.specs.Lists.{Lists, has_effect}
use Rattle.gic_case.specs.Sound.{IsSound}
use Rattle.gic_fixed.specs.Ends.{Ends, IsAtMostWide}
use Rattle.gic_induce.specs.Voltage.{IsFieldWithin}
use Rattle.gic_model.specs.Sums.{Placed}
use Rattle.gic_view.specs.View.{View, effective_at}
use Rattle.gic_winding.specs.Weights.{transformer_at}
use Rattle.gic_effective.specs.RightView.{IsRightEffective}
use Rattle.gic_effective.specs.Weighted.{effective_numerator, effective_denominator}
use Rattle.gic_criteria.specs.declared.event.Event.{Event}
use Rattle.gic_criteria.specs.declared.event.Event.TheVariants.{Benchmark, Supplemental}
use Rattle.gic_criteria.specs.Event.{field_of}
use Rattle.gic_criteria.specs.VerdictLaws.{UndecidedIsAcross, WorstBelowIsUnder, WorstReachesIsAtLeast}
use Rattle.gic_criteria.specs.Worst.{IsWorstOf}
use Rattle.gic_uniform.specs.Solving.{IsSolvedView}
use Rattle.gic_uniform.proofs.Denominators.{some_denominator}
use Rattle.gic_worst.specs.Rows.{ScreenRowView, screen_row_at, IsRowOf}
use Rattle.gic_worst.specs.RightRows.{IsRightWorst, IsRightRow, IsThirdOfRight, IsTrueVerdict}
use Rattle.gic_worst.specs.Screening.{AreScreened}

-- the field of an event is one that can be asked for, and so is none
pub field_within : (event : Event) → IsFieldWithin (field_of event)
field_within Benchmark = omega arith
field_within Supplemental = omega arith

pub nothing_within : IsFieldWithin (pos 0)
nothing_within = omega arith

-- a row of two views that were solved to half the width
row_right : (case : Lists) (standing : List Placed) (north east : ℕ → ℤ) (width half t : ℕ) (north_view east_view : View) (row : ScreenRowView)
    → IsSolvedView case standing north half north_view → IsSolvedView case standing east half east_view → t < length case.transformers → 2 ≤ half → 2 * half ≤ width
    → IsRowOf (effective_at north_view t) (effective_at east_view t) row → IsRightRow case standing north east width t row
row_right case standing north east width half t north_view east_view row one other inside least twice is =
    let first = one.narrow.effective t inside in
    let second = other.narrow.effective t inside in
    let third = is.narrow half least first second in
    record {
      to_north = subst (λ (e : Ends). IsRightEffective case standing north t e) (sym is.north_is) (one.right.effective t inside);
      to_east = subst (λ (e : Ends). IsRightEffective case standing east t e) (sym is.east_is) (other.right.effective t inside);
      at_worst = record {
        holds = λ s r solves. is.holds (effective_numerator case s t) (effective_denominator case t s) (effective_numerator case r t) (effective_denominator case t r)
            ((one.right.effective t inside).holds s solves.in_north) ((other.right.effective t inside).holds r solves.in_east);
        in_order = is.worst_is.in_order;
        narrow = wider row.worst (2 * half) width twice third;
      };
      north_narrow = subst (λ (e : Ends). IsAtMostWide width e.low e.high) (sym is.north_is) (wider (effective_at north_view t) half width (omega arith) first);
      east_narrow = subst (λ (e : Ends). IsAtMostWide width e.low e.high) (sym is.east_is) (wider (effective_at east_view t) half width (omega arith) second);
      worst_is = subst₂ (λ (a b : Ends). IsWorstOf a b row.worst) (sym is.north_is) (sym is.east_is) is.worst_is;
    }
  where
    wider : (e : Ends) (w v : ℕ) → w ≤ v → IsAtMostWide w e.low e.high → IsAtMostWide v e.low e.high
    wider e w v h narrow = omega (arith, ints, narrow)

-- all rows
pub rows_screened : (case : Lists) (standing : List Placed) (north east : ℕ → ℤ) (width half : ℕ) (north_view east_view : View) (rows : List ScreenRowView)
    → IsSolvedView case standing north half north_view → IsSolvedView case standing east half east_view → 2 ≤ half → 2 * half ≤ width
    → length rows ≡ length case.transformers
    → ((t : ℕ) → t < length rows → IsRowOf (effective_at north_view t) (effective_at east_view t) (screen_row_at rows t))
    → AreScreened case standing north east width rows
rows_screened case standing north east width half north_view east_view rows one other least twice count filled = record {
  count = count;
  right = λ t inside. row_right case standing north east width half t north_view east_view (screen_row_at rows t) one other inside least twice (filled t (subst (λ n. t < n) (sym count) inside));
}

-- the third of a right row is a right worst interval
pub third_right : (case : Lists) (standing : List Placed) (north east : ℕ → ℤ) (width t : ℕ) (worst : Ends) → IsThirdOfRight case standing north east width t worst → IsRightWorst case standing north east width t worst
third_right case standing north east width t worst third = subst (λ (e : Ends). IsRightWorst case standing north east width t e) (sym third.is) third.right.at_worst

-- the verdict on a right worst interval is true
pub verdict_true : UndecidedIsAcross → WorstBelowIsUnder → WorstReachesIsAtLeast → (case : Lists) (standing : List Placed) (north east : ℕ → ℤ) (threshold width t : ℕ) (worst : Ends)
    → IsSound case → t < length case.transformers → IsRightWorst case standing north east width t worst → IsTrueVerdict case standing north east threshold t worst
verdict_true across under at_least case standing north east threshold width t worst sound inside right =
    let high_volts = (transformer_at case t).high_volts in
    let earthed = has_effect (transformer_at case t).kind in
    record {
      below = λ said one other solves.
          under worst.low worst.high (effective_numerator case one t) (effective_denominator case t one) (effective_numerator case other t) (effective_denominator case t other) threshold high_volts earthed
          (some_denominator case t one sound inside solves.in_north.denominator_above_0) (some_denominator case t other sound inside solves.in_east.denominator_above_0)
          right.in_order said (right.holds one other solves);
      reaches = λ said one other solves.
          at_least worst.low worst.high (effective_numerator case one t) (effective_denominator case t one) (effective_numerator case other t) (effective_denominator case t other) threshold high_volts earthed
          said (right.holds one other solves);
      undecided = λ said. across worst.low worst.high threshold high_volts earthed said;
    }
