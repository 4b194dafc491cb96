-- Counts over narrow views: only a current near the threshold may be counted otherwise.
use Rattle.std.proofs.Common.{rules, ◌≡◌, ℕ, ◌+◌, ◌-◌, ◌*◌, ◌<◌, ◌≤◌, ◌^◌, true, ℤ, pos, ◌≤ℤ◌, unsigned_abs, List, map, length, arith}
use Rattle.std.specs.List.{AllByRecursion}
use Rattle.std.proofs.lemmas.Bool.Decides.{nat_tests}
use Rattle.std.proofs.lemmas.Grind.{common_steps}
use Rattle.std.proofs.lemmas.Int.{ints, clamps}
use Rattle.std.proofs.lemmas.List.Sums.{count_by-le-length}
use Rattle.gic_base.proofs.Each.{weaker}
use Rattle.gic_fixed.specs.Ends.{IsAtMostWide}
use Rattle.gic_fixed.specs.Rounding.{least_abs, greatest_abs}
use Rattle.gic_report.proofs.Absolutes.{absolute_narrow}
use Rattle.gic_view.specs.View.{View, effective_at}
use Rattle.gic_monitor.specs.Bounds.{Current, ShowsUnit, is_at_least, exact_count}
use Rattle.gic_monitor.specs.DwellText.{begins_above, ends_above, certain_count, possible_count, stopped}
use Rattle.gic_monitor.proofs.CountsBound.{at_least, end_at_least, count_by-le, count_by-map}

-- a view shows the unit's current, by an interval that is no wider than this
pub record IsNarrowlyShown (width unit : ℕ) (step : View × Current) : Type 0 where
  pub shown : ShowsUnit unit step.0 step.1
  pub narrow : IsAtMostWide width (effective_at step.0 unit).low (effective_at step.0 unit).high

-- over plain numbers: the ends of a narrow interval
low_end : (lo hi : ℤ) (threshold width : ℕ) → IsAtMostWide width lo hi → pos (threshold + width) ≤ℤ hi → pos threshold ≤ℤ lo
low_end lo hi threshold width narrow most = omega (arith, ints, narrow, most)

low_end_near : (lo hi : ℤ) (threshold width : ℕ) → IsAtMostWide width lo hi → pos 0 ≤ℤ lo → pos threshold ≤ℤ hi → pos (threshold - width) ≤ℤ lo
low_end_near lo hi threshold width narrow some most = omega (arith, ints, narrow, some, most)

least_not_negative : (lo hi : ℤ) → pos 0 ≤ℤ least_abs lo hi
least_not_negative lo hi = omega (arith, ints, clamps)

-- a current of one width above the threshold or more is certain
begins : (threshold width unit : ℕ) (step : View × Current) → IsNarrowlyShown width unit step → is_at_least (threshold + width) step.1 ≡ true → begins_above threshold (effective_at step.0 unit) ≡ true
begins threshold width unit step s h =
    let lo = (effective_at step.0 unit).low in
    let hi = (effective_at step.0 unit).high in
    let current = step.1 in
    let least : (threshold + width) * current.denominator ≤ unsigned_abs current.numerator = grind (arith, nat_tests, h) in
    let end = end_at_least (greatest_abs lo hi) (unsigned_abs current.numerator) current.denominator (threshold + width) s.shown.above_zero least s.shown.encloses.below_hi in
    let begin = low_end (least_abs lo hi) (greatest_abs lo hi) threshold width (absolute_narrow lo hi width s.narrow) end in
    grind (arith, common_steps, begin)

-- a possible one is at most one width under it
ends : (threshold width unit : ℕ) (step : View × Current) → IsNarrowlyShown width unit step → ends_above threshold (effective_at step.0 unit) ≡ true → is_at_least (threshold - width) step.1 ≡ true
ends threshold width unit step s h =
    let lo = (effective_at step.0 unit).low in
    let hi = (effective_at step.0 unit).high in
    let current = step.1 in
    let end : pos threshold ≤ℤ greatest_abs lo hi = search (rules, h) in
    let begin = low_end_near (least_abs lo hi) (greatest_abs lo hi) threshold width (absolute_narrow lo hi width s.narrow) (least_not_negative lo hi) end in
    let least = at_least (least_abs lo hi) (unsigned_abs current.numerator) current.denominator (threshold - width) begin s.shown.encloses.above_lo in
    grind (arith, nat_tests, least)

pub near_are_certain : (threshold width unit : ℕ) (steps : List (View × Current)) → length steps < 2 ^ 64 → AllByRecursion (IsNarrowlyShown width unit) steps →
    exact_count (threshold + width) steps ≤ stopped (certain_count threshold unit (map (λ step. step.0) steps))
near_are_certain threshold width unit steps short h =
    let mapped = count_by-map (λ view. begins_above threshold (effective_at view unit)) (λ (step : View × Current). step.0) steps in
    let few = count_by-le (λ (step : View × Current). is_at_least (threshold + width) step.1) (λ step. begins_above threshold (effective_at step.0 unit)) steps
    (weaker (IsNarrowlyShown width unit) _ (begins threshold width unit) steps h) in
    let exact = count_by-le-length (λ (step : View × Current). is_at_least (threshold + width) step.1) steps in
    omega arith

pub possible_are_near : (threshold width unit : ℕ) (steps : List (View × Current)) → AllByRecursion (IsNarrowlyShown width unit) steps →
    stopped (possible_count threshold unit (map (λ step. step.0) steps)) ≤ exact_count (threshold - width) steps
possible_are_near threshold width unit steps h =
    let mapped = count_by-map (λ view. ends_above threshold (effective_at view unit)) (λ (step : View × Current). step.0) steps in
    let few = count_by-le (λ (step : View × Current). ends_above threshold (effective_at step.0 unit)) (λ step. is_at_least (threshold - width) step.1) steps
    (weaker (IsNarrowlyShown width unit) _ (ends threshold width unit) steps h) in
    omega arith
