-- Names and decimals are words, and a decimal determines its number.
use Rattle.std.proofs.Common.{◌≡◌, ℕ, ◌<◌, ◌≤◌, ◌+◌, ◌%◌, ◌^◌, List, [], ◌∷◌, ◌++◌, ℤ, pos, negsuc, suc, true, ◌&&◌, nat_le, length, drop, sym, ap, ◌∙◌, subst, arith}
use Rattle.std.specs.Prelude.{decimal, ◌≢◌}
use Rattle.std.specs.Fmt.{signed_decimal}
use Rattle.std.specs.List.{list_all}
use Rattle.std.specs.Str.Parse.{AllDigits, digits_value}
use Rattle.std.proofs.lemmas.Bool.{and_parts}
use Rattle.std.proofs.lemmas.Bool.Decides.{nat_tests}
use Rattle.std.proofs.lemmas.Fmt.{decimal_by_steps_wide, decimal_is_IsNumeral_wide}
use Rattle.std.proofs.lemmas.Str.Parse.{digit_from_value}
use lib.Signed.{mag}
use Rattle.gic_base.specs.Name.{is_name_byte, is_name}
use Rattle.gic_text.specs.Words.{IsWordByte, IsWord}

word_byte : (b : ℕ) → 33 ≤ b → IsWordByte b
word_byte b h = record { no_space = λ e. absurd (omega arith); no_end = λ e. absurd (omega arith) }

word_push : (w : List ℕ) (b : ℕ) → IsWord w → 33 ≤ b → IsWord (w ++ b ∷ [])
word_push [] b h k = (word_byte b k, tt)
word_push (a ∷ w) b h k = (h.0, word_push w b h.1 k)

-- bytes above the space make a word
pub word_from_test : (w : List ℕ) → list_all (nat_le 33) w ≡ true → IsWord w
word_from_test [] h = tt
word_from_test (b ∷ w) h =
    let parts = and_parts (nat_le 33 b) (list_all (nat_le 33) w) h in
    (word_byte b (grind (arith, nat_tests, parts.0)), word_from_test w parts.1)

pub word_decimal : (n : ℕ) → n < 10 ^ 64 → IsWord (decimal n)
word_decimal n h = decimal_by_steps_wide (λ n ds. IsWord ds) (λ n lt. (word_byte (48 + n) (omega arith), tt)) (λ n ds le w. word_push ds (48 + n % 10) w (omega arith)) n h

-- the decimal of a number of at most 128 bits is a word
pub word_signed : (z : ℤ) → mag z < 2 ^ 128 → IsWord (signed_decimal z)
word_signed (pos n) h = word_decimal n (omega arith)
word_signed (negsuc n) h = (word_byte 45 (omega arith), word_decimal (suc n) (omega arith))

decimal_injective_wide : (m n : ℕ) → m < 10 ^ 64 → n < 10 ^ 64 → decimal m ≡ decimal n → m ≡ n
decimal_injective_wide m n p q e = sym (decimal_is_IsNumeral_wide m p).1 ∙ ap (digits_value 10) e ∙ (decimal_is_IsNumeral_wide n q).1

decimal-ne_minus_wide : (n : ℕ) (ds : List ℕ) → n < 10 ^ 64 → decimal n ≢ 45 ∷ ds
decimal-ne_minus_wide n ds h e = omega (arith, digit_from_value 45 (subst (AllDigits 10) e (decimal_is_IsNumeral_wide n h).0.1).0)

-- a decimal determines its number, up to 128 bits
pub signed_decimal_injective_wide : (y z : ℤ) → mag y < 2 ^ 128 → mag z < 2 ^ 128 → signed_decimal y ≡ signed_decimal z → y ≡ z
signed_decimal_injective_wide (pos m) (pos n) p q e = ap pos (decimal_injective_wide m n (omega arith) (omega arith) e)
signed_decimal_injective_wide (pos m) (negsuc n) p q e = absurd (decimal-ne_minus_wide m _ (omega arith) e)
signed_decimal_injective_wide (negsuc m) (pos n) p q e = absurd (decimal-ne_minus_wide n _ (omega arith) (sym e))
signed_decimal_injective_wide (negsuc m) (negsuc n) p q e =
    ap negsuc (omega (arith, decimal_injective_wide (suc m) (suc n) (omega arith) (omega arith) (ap (drop 1) e)))

name_byte : (b : ℕ) → is_name_byte b ≡ true → 33 ≤ b
name_byte b h = grind (arith, nat_tests, h)

name_bytes : (w : List ℕ) → list_all is_name_byte w ≡ true → IsWord w
name_bytes [] h = tt
name_bytes (b ∷ w) h =
    let parts = and_parts (is_name_byte b) (list_all is_name_byte w) h in
    (word_byte b (name_byte b parts.0), name_bytes w parts.1)

-- a name is a word
pub word_name : (w : List ℕ) → is_name w ≡ true → IsWord w
word_name w h = name_bytes w (and_parts (nat_le 1 (length w) && nat_le (length w) 32) (list_all is_name_byte w) h).1
