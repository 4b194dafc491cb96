-- What a monitor of earthings would print of further views.
use Rattle.std.specs.Prelude.{ℕ, List, ◌++◌, map, None}
use Rattle.std.specs.Option.{option_to_list}
use Rattle.gic_text.specs.Lines.{lines_text}
use Rattle.gic_view.specs.View.{View}
use Rattle.gic_view.specs.Kept.{optional_ends}
use Rattle.gic_monitor.specs.declared.roster.Seat.{Seat}
use Rattle.gic_monitor.specs.declared.earth.SeatRange.{SeatRange}
use Rattle.gic_monitor.specs.EarthText.{range_of, standing_ends, earth_line}

-- the line of an earthing with its range so far, over further views
abbrev pub range_line : List View → SeatRange → List (List ℕ)
range_line views seat = earth_line seat.name (range_of (option_to_list (optional_ends seat.range) ++ standing_ends seat.element.0 views))

-- a line for each earthing, in order
abbrev pub range_text : List SeatRange → List View → List ℕ
range_text seats views = lines_text (map (range_line views) seats)

-- an earthing of which no view was seen
abbrev pub fresh_range : Seat → SeatRange
fresh_range seat = record { name = seat.name; element = seat.element; range = None }
