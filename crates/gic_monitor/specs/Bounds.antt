-- What the counts and the ranges of monitors say of exact currents.
use Rattle.std.specs.Prelude.{ℕ, ◌*◌, ◌^◌, ◌<◌, ◌≤◌, ◌≡◌, ℤ, unsigned_abs, Bool, nat_le, List, length, map, count_by, All, Contains, Some, IsSomeAnd}
use Rattle.gic_fixed.specs.Ends.{Ends}
use Rattle.gic_fixed.specs.Rounding.{least_abs, greatest_abs}
use Rattle.gic_fixed.specs.Encloses.{Encloses, EnclosesAbsolute}
use Rattle.gic_view.specs.View.{View, element_at, effective_at}
use Rattle.gic_monitor.specs.DwellText.{certain_count, possible_count, stopped}
use Rattle.gic_monitor.specs.EarthText.{range_of, standing_ends}

-- an exact current in mA, as a fraction
pub record Current : Type 0 where
  pub numerator : ℤ
  pub denominator : ℕ

-- the denominator is above 0, and the absolute interval that the view shows of the unit encloses the absolute current
pub record ShowsUnit (unit : ℕ) (view : View) (current : Current) : Type 0 where
  pub above_zero : 0 < current.denominator
  pub encloses : EnclosesAbsolute
      (least_abs (effective_at view unit).low (effective_at view unit).high)
      (greatest_abs (effective_at view unit).low (effective_at view unit).high)
      current.numerator current.denominator

-- the absolute current is the threshold or more
abbrev pub is_at_least : (threshold : ℕ) → Current → Bool
is_at_least threshold current = nat_le (threshold * current.denominator) (unsigned_abs current.numerator)

-- at how many steps it is
abbrev pub exact_count : (threshold : ℕ) → List (View × Current) → ℕ
exact_count threshold steps = count_by (λ step. is_at_least threshold step.1) steps

-- at no fewer steps than the certain count of the unit the exact current is the threshold or more
abbrev pub CertainAreFewest : Type 0
CertainAreFewest = (threshold unit : ℕ) (steps : List (View × Current)) →
    All (λ step. ShowsUnit unit step.0 step.1) steps →
    stopped (certain_count threshold unit (map (λ step. step.0) steps)) ≤ exact_count threshold steps

-- and over fewer than 2^64 steps at no more than the possible count
abbrev pub PossibleAreMost : Type 0
PossibleAreMost = (threshold unit : ℕ) (steps : List (View × Current)) → length steps < 2 ^ 64 →
    All (λ step. ShowsUnit unit step.0 step.1) steps →
    exact_count threshold steps ≤ stopped (possible_count threshold unit (map (λ step. step.0) steps))

-- each exact current that the interval of an earthing encloses, in a view where it stands, lies within its range
abbrev pub RangeHoldsEach : Type 0
RangeHoldsEach = (element : ℕ) (views : List View) (view : View) (ends : Ends) (numerator : ℤ) (denominator : ℕ) →
    Contains views view → element_at view element ≡ Some ends → Encloses ends.low ends.high numerator denominator →
    IsSomeAnd (range_of (standing_ends element views)) (λ range. Encloses range.low range.high numerator denominator)
