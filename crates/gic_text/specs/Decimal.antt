-- Numbers read as decimal text: a sign or none, then digits.
use Rattle.std.specs.Prelude.{ℕ, ℤ, nat_le, int_le, Bool, ◌&&◌, if◌then◌else◌, List, length, Option, Some, None, option_and_then}
use Rattle.std.specs.List.{list_all}
use Rattle.std.specs.Str.Parse.{digits_value, without_leading_sign, signed_digits_value}

-- a digit of ASCII
abbrev pub is_digit : ℕ → Bool
is_digit byte = nat_le 48 byte && nat_le byte 57

-- 1 to `most` digits, and nothing else
abbrev pub is_numeral : ℕ → List ℕ → Bool
is_numeral most text = (nat_le 1 (length text) && nat_le (length text) most) && list_all is_digit text

-- the number that 1 to `most` digits write
unfoldable pub natural_of : ℕ → List ℕ → Option ℕ
natural_of most text = if is_numeral most text then Some (digits_value 10 text) else None

-- the number that a sign or none and 1 to `most` digits write
unfoldable pub whole_of : ℕ → List ℕ → Option ℤ
whole_of most text = if is_numeral most (without_leading_sign text) then Some (signed_digits_value 10 text) else None

-- the number, where it lies within its bounds
abbrev pub within : ℤ → ℤ → ℤ → Option ℤ
within least most number = if int_le least number && int_le number most then Some number else None

-- the number of at most `most` digits that a text writes, where it lies within its bounds
abbrev pub decimal_in : ℕ → List ℕ → ℤ → ℤ → Option ℤ
decimal_in digits text least most = option_and_then (within least most) (whole_of digits text)

-- the number of at most 18 digits that a text writes, where it lies within its bounds
unfoldable pub read_decimal : List ℕ → ℤ → ℤ → Option ℤ
read_decimal text least most = decimal_in 18 text least most

-- the number of at most 38 digits that a text writes, where it lies within its bounds
unfoldable pub read_wide : List ℕ → ℤ → ℤ → Option ℤ
read_wide text least most = decimal_in 38 text least most
