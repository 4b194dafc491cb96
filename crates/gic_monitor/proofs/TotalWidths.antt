-- How wide the total of a view is whose intervals are narrow.
use Rattle.std.proofs.Common.{◌≡◌, ℕ, ◌+◌, ◌*◌, ◌<◌, ◌≤◌, List, [], ◌∷◌, length, ℤ, pos, ◌+ℤ◌, ◌*ℤ◌, ◌≤ℤ◌, refl, arith}
use Rattle.std.specs.Int.{int_min}
use Rattle.std.specs.List.{sum_by, enumerate_from}
use Rattle.std.proofs.lemmas.Int.{ints, clamps}
use Rattle.std.proofs.lemmas.List.Sums.{sum_by-cons}
use Rattle.gic_fixed.specs.Ends.{IsAtMostWide}
use Rattle.gic_fixed.specs.Rounding.{least_abs, greatest_abs}
use Rattle.gic_fixed.specs.Sums.{sum_of}
use Rattle.gic_fixed.proofs.Integers.{linear, *ℤ-≤ℤ, *ℤ-+ℤ}
use Rattle.gic_view.specs.View.{View, effective_at}
use Rattle.gic_monitor.specs.LossText.{most_counted_current, counted_current, unit_loss, least_loss, most_loss}
use Rattle.gic_monitor.specs.LossBounds.{AreNarrowUnits, total_width}

-- an absolute interval that is cut is no wider than the interval
counted_narrow : (width : ℕ) (lo hi : ℤ) → IsAtMostWide width lo hi →
    int_min (greatest_abs lo hi) (pos most_counted_current) ≤ℤ (int_min (least_abs lo hi) (pos most_counted_current) +ℤ pos width)
counted_narrow width lo hi narrow = omega (arith, ints, clamps, narrow)

-- what a unit draws at most is above what it draws at least by at most the width times its factor
unit_narrow : (units width : ℕ) (view : View) (unit factor : ℕ) → AreNarrowUnits width units view → unit < units →
    (unit_loss view (unit, factor)).high ≤ℤ ((unit_loss view (unit, factor)).low +ℤ pos (factor * width))
unit_narrow units width view unit factor narrow inside =
    let ends = effective_at view unit in
    let counted = counted_current ends in
    let order = *ℤ-≤ℤ factor counted.high (counted.low +ℤ pos width) (counted_narrow width ends.low ends.high (narrow unit inside)) in
    let split = *ℤ-+ℤ (pos factor) counted.low (pos width) in
    let product : pos factor *ℤ pos width ≡ pos (factor * width) = refl in
    omega (arith, linear, order, split, product)

-- so are the sums over units from a place on
sum_narrow : (units width : ℕ) (view : View) (n : ℕ) (factors : List ℕ) → AreNarrowUnits width units view → n + length factors ≤ units →
    sum_of (λ unit. (unit_loss view unit).high) (enumerate_from n factors) ≤ℤ (sum_of (λ unit. (unit_loss view unit).low) (enumerate_from n factors) +ℤ pos (total_width width factors))
sum_narrow units width view n [] narrow inside = omega (arith, ints)
sum_narrow units width view n (factor ∷ factors) narrow inside =
    let here = unit_narrow units width view n factor narrow (omega arith) in
    let rest = sum_narrow units width view (n + 1) factors narrow (omega arith) in
    let joined : total_width width (factor ∷ factors) ≡ factor * width + total_width width factors = sum_by-cons (λ (x : ℕ). x * width) factor factors in
    omega (arith, linear, here, rest, joined)

-- and the ends of the view's total
pub total_narrow : (factors : List ℕ) (width : ℕ) (view : View) → AreNarrowUnits width (length factors) view →
    most_loss factors view ≤ℤ (least_loss factors view +ℤ pos (total_width width factors))
total_narrow factors width view narrow = sum_narrow (length factors) width view 0 factors narrow (omega arith)
