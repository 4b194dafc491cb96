-- What the line of a monitor of reactive loss says of exact currents.
use Rattle.std.specs.Prelude.{◌≡◌, ℕ, ◌*◌, ◌<◌, ℤ, pos, ◌-ℤ◌, ◌*ℤ◌, ◌≤ℤ◌, ◌<ℤ◌, unsigned_abs, List, ◌∷◌, ◌++◌, length, map, Some, slice_index_or, All, Any}
use Rattle.std.specs.List.{sum_by, enumerate_from}
use Rattle.gic_fixed.specs.Encloses.{Encloses, IsWithin}
use Rattle.gic_fixed.specs.Ends.{IsAtMostWide}
use Rattle.gic_text.specs.Lines.{line_text}
use Rattle.gic_view.specs.View.{View, effective_at}
use Rattle.gic_monitor.specs.LossText.{most_counted_current, Total, loss_line}

-- the exact signed effective currents of units in mA per phase, as numerators over one denominator
pub record Currents : Type 0 where
  pub numerators : List ℤ
  pub denominator : ℕ

-- the numerator of the current of the unit at this place
abbrev pub numerator_at : Currents → ℕ → ℤ
numerator_at currents unit = slice_index_or currents.numerators unit (pos 0)

-- the denominator is above 0, the view's interval of each unit encloses its current, and its ends are within ±2^70
pub record ShowsUnits (units : ℕ) (view : View) (currents : Currents) : Type 0 where
  pub above_zero : 0 < currents.denominator
  pub encloses : (unit : ℕ) → unit < units →
      Encloses (effective_at view unit).low (effective_at view unit).high (numerator_at currents unit) currents.denominator
  pub within : (unit : ℕ) → unit < units → IsWithin most_counted_current (effective_at view unit).low (effective_at view unit).high

-- the exact total of factor times absolute current in milli-var, as a numerator over the same denominator
abbrev pub exact_total : (factors : List ℕ) → Currents → ℕ
exact_total factors currents = sum_by (λ unit. unit.1 * unsigned_abs (numerator_at currents unit.0)) (enumerate_from 0 factors)

-- no interval of these units is wider than this
abbrev pub AreNarrowUnits : (width units : ℕ) → View → Type 0
AreNarrowUnits width units view = (unit : ℕ) → unit < units → IsAtMostWide width (effective_at view unit).low (effective_at view unit).high

-- the sum of factor times width, which is how wide a total of such intervals is at most
abbrev pub total_width : (width : ℕ) → (factors : List ℕ) → ℕ
total_width width factors = sum_by (λ factor. factor * width) factors

-- the exact total is at most this high end, or under it, and at least this low end
abbrev pub IsTotalAtMost : (factors : List ℕ) → (high : ℤ) → Currents → Type 0
IsTotalAtMost factors high currents = pos (exact_total factors currents) ≤ℤ (high *ℤ pos currents.denominator)

abbrev pub IsTotalUnder : (factors : List ℕ) → (high : ℤ) → Currents → Type 0
IsTotalUnder factors high currents = pos (exact_total factors currents) <ℤ (high *ℤ pos currents.denominator)

abbrev pub IsTotalAtLeast : (factors : List ℕ) → (low : ℤ) → Currents → Type 0
IsTotalAtLeast factors low currents = (low *ℤ pos currents.denominator) ≤ℤ pos (exact_total factors currents)

-- the number that a total tells is that of one of these steps. At each step before it the exact total is under the high end; where no interval of its own view is wider than a width, its exact total is less than the high end by at most the width of the total, and so is the low end
pub record NamesStep (factors : List ℕ) (steps : List (View × Currents)) (total : Total) : Type 0 where
  pub before : List (View × Currents)
  pub step : View × Currents
  pub behind : List (View × Currents)
  pub are : steps ≡ before ++ step ∷ behind
  pub number_is : total.number ≡ step.0.number
  pub under : All (λ earlier. IsTotalUnder factors total.high earlier.1) before
  pub near : (width : ℕ) → AreNarrowUnits width (length factors) step.0 → IsTotalAtLeast factors (total.high -ℤ pos (total_width width factors)) step.1
  pub narrow : (width : ℕ) → AreNarrowUnits width (length factors) step.0 → IsAtMostWide (total_width width factors) total.low total.high

-- one total bounds the exact ones of these steps: its high end each of them, and its low end one of them from below; and it names one of them
pub record BoundsLosses (factors : List ℕ) (steps : List (View × Currents)) (total : Total) : Type 0 where
  pub most : All (λ step. IsTotalAtMost factors total.high step.1) steps
  pub least : Any (λ step. IsTotalAtLeast factors total.low step.1) steps
  pub named : NamesStep factors steps total

-- the text is the line of such a total
pub record TellsBounds (word : List ℕ) (factors : List ℕ) (steps : List (View × Currents)) (text : List ℕ) : Type 0 where
  pub total : Total
  pub line : text ≡ line_text (loss_line word (Some total))
  pub bounds : BoundsLosses factors steps total

-- so is the text over one view or more that enclose the currents
abbrev pub LossesAreBounded : (word : List ℕ) → (factors : List ℕ) → (text_of : List View → List ℕ) → Type 0
LossesAreBounded word factors text_of = (steps : List (View × Currents)) → 0 < length steps →
    All (λ step. ShowsUnits (length factors) step.0 step.1) steps → TellsBounds word factors steps (text_of (map (λ step. step.0) steps))
