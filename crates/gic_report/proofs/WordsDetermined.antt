-- The words of a line: which are words, and what they determine.
use Rattle.std.proofs.Common.{◌≡◌, ℕ, ◌<◌, ◌^◌, List, [], take, drop, get_or, ℤ, pos, FitsSigned, w32, refl, ap, arith}
use Rattle.std.specs.Prelude.{codes}
use Rattle.std.specs.Fmt.{signed_decimal, decimal}
use Rattle.std.specs.Int.{w128}
use lib.Signed.{mag}
use Rattle.gic_text.specs.Words.{IsWord, IsLine}
use Rattle.gic_text.proofs.Words.{word_from_test, word_decimal, word_signed, signed_decimal_injective_wide}
use Rattle.gic_criteria.specs.declared.criterion.Verdict.{Verdict}
use Rattle.gic_criteria.specs.declared.criterion.Verdict.TheVariants.{Below, Reaches, Undecided, Outside}
use Rattle.gic_report.specs.SharedLines.{Words, field_line}
use Rattle.gic_report.specs.VerdictText.{verdict_word}

-- ---- places

-- the word at a place of a line, and the two words from it on
abbrev pub word_at : Words → ℕ → List ℕ
word_at ws k = get_or ws k []

abbrev pub pair_at : Words → ℕ → Words
pair_at ws k = take 2 (drop k ws)

-- the first line
abbrev pub first_of_lines : List Words → Words
first_of_lines ls = get_or ls 0 []

-- ---- numbers

pub word_of_32 : (z : ℤ) → FitsSigned w32 z → IsWord (signed_decimal z)
word_of_32 z h = word_signed z (omega (arith, h.sfits))

pub word_of_128 : (z : ℤ) → FitsSigned w128 z → IsWord (signed_decimal z)
word_of_128 z h = word_signed z (omega (arith, h.sfits))

pub same_32 : (y z : ℤ) → FitsSigned w32 y → FitsSigned w32 z → signed_decimal y ≡ signed_decimal z → y ≡ z
same_32 y z h k e = signed_decimal_injective_wide y z (omega (arith, h.sfits)) (omega (arith, k.sfits)) e

pub same_128 : (y z : ℤ) → FitsSigned w128 y → FitsSigned w128 z → signed_decimal y ≡ signed_decimal z → y ≡ z
same_128 y z h k e = signed_decimal_injective_wide y z (omega (arith, h.sfits)) (omega (arith, k.sfits)) e

-- numbers that aren't below 0, of 64, 32 and 16 bits
pub same_long : (m n : ℕ) → m < 2 ^ 64 → n < 2 ^ 64 → decimal m ≡ decimal n → m ≡ n
same_long m n h k e =
    let same : pos m ≡ pos n = signed_decimal_injective_wide (pos m) (pos n) (omega (arith, h)) (omega (arith, k)) e in
    ap (λ z. mag z) same

pub word_of_natural : (n : ℕ) → n < 2 ^ 32 → IsWord (decimal n)
word_of_natural n h = word_decimal n (omega (arith, h))

pub same_natural : (m n : ℕ) → m < 2 ^ 32 → n < 2 ^ 32 → decimal m ≡ decimal n → m ≡ n
same_natural m n h k e = same_long m n (omega (arith, h)) (omega (arith, k)) e

pub same_small : (m n : ℕ) → m < 2 ^ 16 → n < 2 ^ 16 → decimal m ≡ decimal n → m ≡ n
same_small m n h k e = same_long m n (omega (arith, h)) (omega (arith, k)) e

-- ---- verdicts

pub verdict_is_word : (v : Verdict) → IsWord (verdict_word v)
verdict_is_word Below = word_from_test (codes "below") refl
verdict_is_word Reaches = word_from_test (codes "reaches") refl
verdict_is_word Undecided = word_from_test (codes "undecided") refl
verdict_is_word Outside = word_from_test (codes "outside") refl

-- ---- the line of a field

pub field_is_line : (north east : ℤ) → FitsSigned w32 north → FitsSigned w32 east → IsLine (field_line north east)
field_is_line north east n e = (word_from_test (codes "north") refl, (word_of_32 north n, (word_from_test (codes "east") refl, (word_of_32 east e, tt))))

pub same_field_line : (north east north' east' : ℤ) → FitsSigned w32 north → FitsSigned w32 east → FitsSigned w32 north' → FitsSigned w32 east'
    → field_line north east ≡ field_line north' east' → (north ≡ north') × (east ≡ east')
same_field_line north east north' east' n e n' e' same = (same_32 north north' n n' (ap (λ ws. word_at ws 1) same), same_32 east east' e e' (ap (λ ws. word_at ws 3) same))
