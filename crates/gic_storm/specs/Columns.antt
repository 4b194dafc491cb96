-- What the fields of one record of a storm say.
use Rattle.std.specs.Prelude.{ℕ, ℤ, pos, neg_ℤ, nat_lt, nat_le, ◌==◌, ◌&&◌, List, length, codes, Bool, true, if◌then◌else◌, Option, Some, None, option_map}
use Rattle.gic_base.specs.declared.limits.TheConstants.{MOST_FIELD}
use Rattle.gic_records.specs.Columns.{text_at, is_word}
use Rattle.gic_text.specs.Decimal.{read_decimal}
use Rattle.gic_case.specs.Names.{place_in}
use Rattle.gic_storm.specs.declared.form.StormForm.{StormForm}
use Rattle.gic_storm.specs.declared.form.StormForm.TheVariants.{Uniform, Zoned}

-- the record is time,north,east
abbrev pub is_uniform_head : List (List ℕ) → Bool
is_uniform_head columns = (length columns == 3) && (is_word columns 0 (codes "time") && (is_word columns 1 (codes "north") && is_word columns 2 (codes "east")))

-- the record is time,zone,north,east
abbrev pub is_zoned_head : List (List ℕ) → Bool
is_zoned_head columns =
    (length columns == 4) && (is_word columns 0 (codes "time") && (is_word columns 1 (codes "zone") && (is_word columns 2 (codes "north") && is_word columns 3 (codes "east"))))

-- the form that the first record tells
unfoldable pub storm_form_of : List (List ℕ) → Option StormForm
storm_form_of columns = if is_uniform_head columns then Some Uniform else if is_zoned_head columns then Some Zoned else None

-- how many fields a record has
abbrev pub width_of : StormForm → ℕ
width_of Uniform = 3
width_of Zoned = 4

-- the place of north
abbrev pub north_place : StormForm → ℕ
north_place Uniform = 1
north_place Zoned = 2

-- the place of east
abbrev pub east_place : StormForm → ℕ
east_place Uniform = 2
east_place Zoned = 3

-- a part of a field in mV/km, at most `MOST_FIELD` either way
unfoldable pub field_in : List (List ℕ) → ℕ → Option ℤ
field_in columns place = read_decimal (text_at columns place) (neg_ℤ (pos MOST_FIELD)) (pos MOST_FIELD)

-- whom a record is for: all zones, or the zone at a place
unfoldable pub zone_in : StormForm → List (List ℕ) → List (List ℕ) → Option (Option ℕ)
zone_in Uniform zones columns = Some None
zone_in Zoned zones columns = if is_word columns 1 (codes "*") then Some None else option_map Some (place_in zones (text_at columns 1))

-- a time may follow the one before: it is above it, or under zones no less
unfoldable pub follows : StormForm → Option ℕ → ℕ → Bool
follows form None time = true
follows Uniform (Some before) time = nat_lt before time
follows Zoned (Some before) time = nat_le before time
