-- Digits and the numbers that they write.
use Rattle.std.proofs.Common.{◌≡◌, ℕ, ◌<◌, ◌≤◌, ◌*◌, ◌+◌, ◌-◌, ◌^◌, List, [], ◌∷◌, length, take, get_or, true, arith}
use Rattle.std.proofs.lemmas.Bool.{and_parts}
use Rattle.std.proofs.lemmas.Bool.Decides.{nat_tests}
use Rattle.std.proofs.lemmas.Str.Parse.{digit_at, digits_value_short, digits_value-take-le, numerals_by_value, tells_digits}
use Rattle.std.proofs.lemmas.Int.Digits.{digits_value_more}
use Rattle.std.specs.List.{list_all}
use Rattle.std.specs.Char.{digit_value}
use Rattle.std.specs.Str.Parse.{AllDigits, digits_value}
use Rattle.gic_text.specs.Decimal.{is_digit}

one_digit : (b : ℕ) → is_digit b ≡ true → digit_value b < 10
one_digit b h = grind (arith, nat_tests, h)

-- bytes that the test takes are digits
pub all_digits : (text : List ℕ) → list_all is_digit text ≡ true → AllDigits 10 text
all_digits [] h = tt
all_digits (b ∷ bs) h =
    let parts = and_parts (is_digit b) (list_all is_digit bs) h in
    (one_digit b parts.0, all_digits bs parts.1)

-- n digits write less than this
pub whole_small : (digits : ℕ) (text : List ℕ) → AllDigits 10 text → length text ≤ digits → digits_value 10 text < 10 ^ digits
whole_small digits text all few = digits_value_short (numerals_by_value (AllDigits 10) tells_digits) text digits all few

-- and so do the first of them
pub prefix_small : (digits : ℕ) (text : List ℕ) (i : ℕ) → AllDigits 10 text → length text ≤ digits → digits_value 10 (take i text) < 10 ^ digits
prefix_small digits text i all few =
    let whole = whole_small digits text all few in
    let part = digits_value-take-le 10 text i (omega arith) in
    omega arith

-- a byte among digits is a digit's code
pub byte_of : (text : List ℕ) (i : ℕ) → AllDigits 10 text → i < length text → (48 ≤ get_or text i 0) × (get_or text i 0 ≤ 57)
byte_of text i all within = digit_at text i all within

value_at : (b : ℕ) → 48 ≤ b → b ≤ 57 → digit_value b ≡ b - 48
value_at b low high = grind (arith, nat_tests, low, high)

-- one more digit
pub value_more : (text : List ℕ) (i : ℕ) → AllDigits 10 text → i < length text → digits_value 10 (take (i + 1) text) ≡ digits_value 10 (take i text) * 10 + (get_or text i 0 - 48)
value_more text i all within =
    let byte = byte_of text i all within in
    let e = value_at (get_or text i 0) byte.0 byte.1 in
    let m = digits_value_more 10 text i within in
    omega arith
