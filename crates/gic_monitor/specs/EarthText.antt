-- What a monitor of earthings prints.
use Rattle.std.specs.Prelude.{ℕ, List, [], ◌∷◌, map, filter_map, fold, codes, Option, None, Some}
use Rattle.std.specs.Int.{int_min, int_max}
use Rattle.std.specs.Fmt.{signed_decimal}
use Rattle.gic_fixed.specs.Ends.{Ends}
use Rattle.gic_text.specs.Lines.{lines_text}
use Rattle.gic_view.specs.View.{View, element_at}
use Rattle.gic_monitor.specs.declared.roster.Seat.{Seat}
use Rattle.gic_monitor.specs.RosterView.{RosterView}

-- the least low end and the greatest high end of some intervals
abbrev pub range_among : Ends → List Ends → Ends
range_among first others = record {
  low = fold int_min first.low (map (λ ends. ends.low) others);
  high = fold int_max first.high (map (λ ends. ends.high) others);
}

-- the same, where there is an interval
abbrev pub range_of : List Ends → Option Ends
range_of [] = None
range_of (first ∷ others) = Some (range_among first others)

-- the intervals of the element's current in the views where it stands
abbrev pub standing_ends : (element : ℕ) → List View → List Ends
standing_ends element views = filter_map (λ view. element_at view element) views

-- the line of an earthing with this range, which stood at no step where there is none
abbrev pub earth_line : (name : List ℕ) → Option Ends → List (List ℕ)
earth_line name None = codes "earth" ∷ name ∷ codes "open" ∷ []
earth_line name (Some range) = codes "earth" ∷ name ∷ signed_decimal range.low ∷ signed_decimal range.high ∷ []

-- the line of an earthing over these views
abbrev pub seat_line : List View → Seat → List (List ℕ)
seat_line views seat = earth_line seat.name (range_of (standing_ends seat.element.0 views))

-- a line for each earthing, in order
abbrev pub earth_text : RosterView → List View → List ℕ
earth_text roster views = lines_text (map (seat_line views) roster.seats)
