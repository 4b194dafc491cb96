-- The fields of zones: for each a pair (north, east) in mV/km.
use Rattle.std.specs.Prelude.{ℕ, ℤ, pos, List, replicate, slice_set, slice_index_or}
use Rattle.gic_induce.specs.Voltage.{IsFieldWithin}

-- both parts of a field are within 20000 mV/km
abbrev pub IsField : ℤ × ℤ → Type 0
IsField field = IsFieldWithin field.0 × IsFieldWithin field.1

-- no field to the north and none to the east
abbrev pub no_field : ℤ × ℤ
no_field = (pos 0, pos 0)

-- the field of the zone at this place
abbrev pub zone_field : List (ℤ × ℤ) → ℕ → ℤ × ℤ
zone_field fields zone = slice_index_or fields zone no_field

-- the fields of this many zones where this zone alone has one
unfoldable pub lone_field : ℕ → ℕ → ℤ × ℤ → List (ℤ × ℤ)
lone_field zones zone field = slice_set (replicate zones no_field) zone field
