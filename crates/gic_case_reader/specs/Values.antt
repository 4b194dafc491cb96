-- The values of fields.
use Rattle.std.specs.Prelude.{ℕ, ℤ, pos, negsuc, List, ◌&&◌, if◌then◌else◌, nat_le, unsigned_abs, Option, Some, None, option_and_then}
use Rattle.toml.specs.Data.{Data, Members, get_member, as_integer, as_str}
use Rattle.gic_base.specs.Name.{is_name}
use Rattle.gic_case_reader.specs.Keys.{key_of}
use Rattle.gic_case_reader.specs.declared.field.Field.{Field}

-- the number, where it is not below 0 and within bounds
abbrev pub whole_within : (low high : ℕ) → ℤ → Option ℕ
whole_within low high (pos n) = if nat_le low n && nat_le n high then Some n else None
whole_within low high (negsuc n) = None

-- an integer within bounds
abbrev pub natural_within : (low high : ℕ) → Data → Option ℕ
natural_within low high d = option_and_then (whole_within low high) (as_integer d)

-- the number, where it is at most so far from zero, on either side
abbrev pub near_zero : (limit : ℕ) → ℤ → Option ℤ
near_zero limit z = if nat_le (unsigned_abs z) limit then Some z else None

-- an integer that is at most so far from zero
abbrev pub span_within : (limit : ℕ) → Data → Option ℤ
span_within limit d = option_and_then (near_zero limit) (as_integer d)

-- a string that is a name
abbrev pub read_name : Data → Option (List ℕ)
read_name d = option_and_then (λ s. if is_name s then Some s else None) (as_str d)

-- the value under a field's key, as the test reads it
abbrev pub field_value : {A : Type 0} → (Data → Option A) → Field → Members → Option A
field_value read at ms = option_and_then read (get_member (key_of at) ms)
