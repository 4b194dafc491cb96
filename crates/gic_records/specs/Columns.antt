-- The fields of one record.
use Rattle.std.specs.Prelude.{ℕ, pos, nat_abs, List, [], Bool, nat_eq, Option, option_map, unwrap_or}
use Rattle.std.specs.Cmp.Lexicographic.{pointwise}
use Rattle.csv.specs.Records.{field_at}
use Rattle.gic_text.specs.Decimal.{read_decimal}

-- the field at a place, empty where there is none
unfoldable pub text_at : List (List ℕ) → ℕ → List ℕ
text_at fields place = unwrap_or (field_at fields place) []

-- the field at a place is this word
abbrev pub is_word : List (List ℕ) → ℕ → List ℕ → Bool
is_word fields place word = pointwise nat_eq (text_at fields place) word

-- the time in seconds, from 0 to 4294967295: the first field
unfoldable pub time_in : List (List ℕ) → Option ℕ
time_in fields = option_map nat_abs (read_decimal (text_at fields 0) (pos 0) (pos 4294967295))

-- the time, 0 where there is none
abbrev pub time_of : List (List ℕ) → ℕ
time_of fields = unwrap_or (time_in fields) 0
