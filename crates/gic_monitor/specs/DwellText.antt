-- What a monitor of dwells prints.
use Rattle.std.specs.Prelude.{ℕ, ◌-◌, ◌^◌, min, pos, Bool, int_le, List, [], ◌∷◌, map, count_by, codes}
use Rattle.std.specs.List.{enumerate_from}
use Rattle.std.specs.Fmt.{signed_decimal}
use Rattle.gic_fixed.specs.Ends.{Ends}
use Rattle.gic_fixed.specs.Rounding.{least_abs, greatest_abs}
use Rattle.gic_text.specs.Lines.{lines_text}
use Rattle.gic_view.specs.View.{View, effective_at}
use Rattle.gic_monitor.specs.declared.roster.Rated.{Rated}
use Rattle.gic_monitor.specs.RosterView.{RosterView}

-- the absolute values of the interval begin at or above the threshold
abbrev pub begins_above : (threshold : ℕ) → Ends → Bool
begins_above threshold ends = int_le (pos threshold) (least_abs ends.low ends.high)

-- they end at or above it
abbrev pub ends_above : (threshold : ℕ) → Ends → Bool
ends_above threshold ends = int_le (pos threshold) (greatest_abs ends.low ends.high)

-- how many views have an absolute effective interval of the unit that begins at or above the threshold
abbrev pub certain_count : (threshold unit : ℕ) → List View → ℕ
certain_count threshold unit views = count_by (λ view. begins_above threshold (effective_at view unit)) views

-- how many have one that ends at or above it
abbrev pub possible_count : (threshold unit : ℕ) → List View → ℕ
possible_count threshold unit views = count_by (λ view. ends_above threshold (effective_at view unit)) views

-- a count that stops at 2^64 - 1
abbrev pub stopped : ℕ → ℕ
stopped count = min count (2 ^ 64 - 1)

-- the line of a unit with these counts
abbrev pub dwell_line : (name : List ℕ) → (certain possible : ℕ) → List (List ℕ)
dwell_line name certain possible =
    codes "dwell" ∷ name ∷ signed_decimal (pos (stopped certain)) ∷ signed_decimal (pos (stopped possible)) ∷ []

-- the line of the unit at this place of the roster, over these views
abbrev pub unit_line : (threshold : ℕ) → List View → ℕ × Rated → List (List ℕ)
unit_line threshold views (unit, rated) =
    dwell_line rated.name (certain_count threshold unit views) (possible_count threshold unit views)

-- a line for each unit, in order
abbrev pub dwell_text : RosterView → List View → List ℕ
dwell_text roster views = lines_text (map (unit_line roster.threshold views) (enumerate_from 0 roster.units))
