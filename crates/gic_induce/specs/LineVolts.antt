-- The voltages that the fields of the zones induce in the elements of a case.
use Rattle.std.specs.Prelude.{◌<◌, ℕ, ℤ, pos, List, [], length, map, replicate, slice_index_or}
use Rattle.gic_fixed.specs.Sums.{sum_of}
use Rattle.gic_case.specs.declared.scaling.Scaling.TheVariants as scalings
use Rattle.gic_case.specs.ZoneView.{ZoneView}
use Rattle.gic_case.specs.Lists.{Lists}
use Rattle.gic_case.specs.declared.item.Line.{Line}
use Rattle.gic_case.specs.declared.part.LinePart.{LinePart}
use Rattle.gic_case.specs.Courses.{parts_of}
use Rattle.gic_model.specs.Voltages.{number_at}
use Rattle.gic_model.specs.declared.parts.Item.{Item}
use Rattle.gic_model.specs.declared.parts.Item.TheVariants as items
use Rattle.gic_model.specs.declared.parts.Element.{Element}
use Rattle.gic_induce.specs.Fields.{zone_field}
use Rattle.gic_induce.specs.Voltage.{part_nanovolts}

-- a zone that is none of the case's
abbrev pub no_zone : ZoneView
no_zone = record { name = []; scaling = scalings.Factor 0 }

-- the zone at a place; that of each part of a case's lines is there
abbrev pub zone_among : List ZoneView → ℕ → ZoneView
zone_among zones place = slice_index_or zones place no_zone

-- the voltage of a part of a line in the field of its zone
abbrev pub part_volts : List ZoneView → List (ℤ × ℤ) → LinePart → ℤ
part_volts zones fields part = part_nanovolts part (zone_among zones part.zone) (zone_field fields part.zone).0 (zone_field fields part.zone).1

-- the voltage of a line: that of all its parts together
abbrev pub line_volts : List ZoneView → List (ℤ × ℤ) → Line → ℤ
line_volts zones fields line = sum_of (part_volts zones fields) (parts_of line.course)

-- the voltages of the case's lines in the order of the lines, blocked ones too
abbrev pub all_line_volts : Lists → List (ℤ × ℤ) → List ℤ
all_line_volts case fields = map (line_volts case.zones fields) case.lines

-- the voltage of an element by its item: that of its line, and 0 for every other item
abbrev pub volts_of_item : Lists → List (ℤ × ℤ) → Item → ℤ
volts_of_item case fields (items.Line place) = number_at (all_line_volts case fields) place
volts_of_item case fields (items.Ground place) = pos 0
volts_of_item case fields (items.Transformer place) = pos 0
volts_of_item case fields (items.Neutral place) = pos 0

-- the voltages of the elements in their order
abbrev pub volts_of : Lists → List (ℤ × ℤ) → List Element → List ℤ
volts_of case fields elements = map (λ e. volts_of_item case fields e.item) elements

-- one field for all zones of a case: north and east in mV/km
abbrev pub uniform_field : Lists → ℤ → ℤ → List (ℤ × ℤ)
uniform_field case north east = replicate (length case.zones) (north, east)

-- a line item is a place in the case's lines
abbrev pub IsLineWithin : Lists → Item → Type 0
IsLineWithin case (items.Line place) = place < length case.lines
IsLineWithin case (items.Ground place) = Unit {0}
IsLineWithin case (items.Transformer place) = Unit {0}
IsLineWithin case (items.Neutral place) = Unit {0}
