-- The exact total of factor times absolute current lies within the total of a view that encloses the currents.
use Rattle.std.proofs.Common.{ℕ, ◌+◌, ◌*◌, ◌<◌, ◌≤◌, List, [], ◌∷◌, length, ℤ, pos, ◌≤ℤ◌, unsigned_abs, sym, subst, arith}
use Rattle.std.specs.List.{sum_by, enumerate_from}
use Rattle.std.specs.Int.{int_min}
use Rattle.std.proofs.lemmas.Int.{ints, clamps}
use Rattle.std.proofs.lemmas.List.Sums.{sum_by-cons}
use Rattle.gic_fixed.specs.Encloses.{Encloses, IsWithin}
use Rattle.gic_fixed.specs.Rounding.{least_abs, greatest_abs}
use Rattle.gic_fixed.specs.Sums.{sum_of}
use Rattle.gic_fixed.proofs.Enclosures.{Encloses-abs, Encloses-add, Encloses-outer, Encloses-times}
use Rattle.gic_view.specs.View.{View, effective_at}
use Rattle.gic_monitor.specs.LossText.{most_counted_current, unit_loss, least_loss, most_loss}
use Rattle.gic_monitor.specs.LossBounds.{Currents, ShowsUnits, numerator_at, exact_total}

-- an end that is cut is no greater, and one that is small enough isn't cut
cut_below : (z : ℤ) → int_min z (pos most_counted_current) ≤ℤ z
cut_below z = omega (arith, ints, clamps)

uncut : (lo hi : ℤ) → IsWithin most_counted_current lo hi → greatest_abs lo hi ≤ℤ int_min (greatest_abs lo hi) (pos most_counted_current)
uncut lo hi within = omega (arith, ints, clamps, within.low, within.high)

-- what a unit draws exactly, as a numerator
abbrev pub exact_loss : Currents → ℕ × ℕ → ℕ
exact_loss currents unit = unit.1 * unsigned_abs (numerator_at currents unit.0)

-- it lies within what the view shows
unit_encloses : (units : ℕ) (view : View) (currents : Currents) (unit factor : ℕ) → ShowsUnits units view currents → unit < units →
    Encloses (unit_loss view (unit, factor)).low (unit_loss view (unit, factor)).high (pos (exact_loss currents (unit, factor))) currents.denominator
unit_encloses units view currents unit factor shows inside =
    let ends = effective_at view unit in
    let d = currents.denominator in
    let numerator = numerator_at currents unit in
    let absolute = Encloses-abs ends.low ends.high numerator d (shows.encloses unit inside) in
    let counted = Encloses-outer (least_abs ends.low ends.high) (greatest_abs ends.low ends.high) (int_min (least_abs ends.low ends.high) (pos most_counted_current)) (int_min (greatest_abs ends.low ends.high) (pos most_counted_current)) (pos (unsigned_abs numerator)) d
    (cut_below (least_abs ends.low ends.high)) (uncut ends.low ends.high (shows.within unit inside)) absolute in
    Encloses-times _ _ (pos (unsigned_abs numerator)) d factor counted

-- the same of the sums over units from a place on
sum_encloses : (units : ℕ) (view : View) (currents : Currents) (n : ℕ) (factors : List ℕ) → ShowsUnits units view currents → n + length factors ≤ units →
    Encloses (sum_of (λ unit. (unit_loss view unit).low) (enumerate_from n factors)) (sum_of (λ unit. (unit_loss view unit).high) (enumerate_from n factors))
    (pos (sum_by (exact_loss currents) (enumerate_from n factors))) currents.denominator
sum_encloses units view currents n [] shows inside = record { above_lo = omega (arith, ints); below_hi = omega (arith, ints) }
sum_encloses units view currents n (factor ∷ factors) shows inside =
    let d = currents.denominator in
    let here = unit_encloses units view currents n factor shows (omega arith) in
    let rest = sum_encloses units view currents (n + 1) factors shows (omega arith) in
    subst (λ (m : ℕ). Encloses (sum_of (λ unit. (unit_loss view unit).low) (enumerate_from n (factor ∷ factors))) (sum_of (λ unit. (unit_loss view unit).high) (enumerate_from n (factor ∷ factors))) (pos m) d)
    (sym (sum_by-cons (exact_loss currents) (n, factor) (enumerate_from (n + 1) factors)))
    (Encloses-add _ _ _ _ _ _ d here rest)

-- the exact total lies within the total of the view
pub total_encloses : (factors : List ℕ) (view : View) (currents : Currents) → ShowsUnits (length factors) view currents →
    Encloses (least_loss factors view) (most_loss factors view) (pos (exact_total factors currents)) currents.denominator
total_encloses factors view currents shows = sum_encloses (length factors) view currents 0 factors shows (omega arith)
