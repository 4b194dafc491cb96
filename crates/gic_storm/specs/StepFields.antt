-- The field of a zone at a step: that of the last row that is for the zone or for all zones. Nothing is carried over from an earlier step.
use Rattle.std.specs.Prelude.{ℕ, ℤ, ◌==◌, List, map, reverse, find, Bool, true, Option, Some, None}
use Rattle.std.specs.List.{range_with_len}
use Rattle.gic_induce.specs.Fields.{no_field}
use Rattle.gic_storm.specs.declared.row.StormRow.{StormRow}

-- a row is for the zone that it names, and for each where it names none
abbrev pub is_for : Option ℕ → ℕ → Bool
is_for None zone = true
is_for (Some named) zone = named == zone

-- the last of the rows that is for the zone, if there is one
unfoldable pub last_for : List StormRow → ℕ → Option StormRow
last_for rows zone = find (λ r. is_for r.zone zone) (reverse rows)

-- the field of a row (north, east)
abbrev pub field_in_row : StormRow → ℤ × ℤ
field_in_row r = (r.north, r.east)

-- the field of a row, and no field where there is no row
abbrev pub field_or_none : Option StormRow → ℤ × ℤ
field_or_none None = no_field
field_or_none (Some r) = field_in_row r

-- the field of a zone at a step
abbrev pub field_at_step : List StormRow → ℕ → ℤ × ℤ
field_at_step rows zone = field_or_none (last_for rows zone)

-- the field of each of this many zones at a step
abbrev pub fields_at_step : (zones : ℕ) → List StormRow → List (ℤ × ℤ)
fields_at_step zones rows = map (field_at_step rows) (range_with_len 0 zones)
