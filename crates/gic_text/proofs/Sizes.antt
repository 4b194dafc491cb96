-- What fits into a line.
use Rattle.std.proofs.Common.{ℕ, ◌<◌, ◌≤◌, ◌+◌, ◌^◌, List, ◌∷◌, Bool, true, false, cond, ℤ, pos, negsuc, suc, length, length-append, arith}
use Rattle.std.specs.Fmt.{signed_decimal}
use Rattle.std.proofs.lemmas.Fmt.{length-decimal-le_wide}
use lib.Signed.{mag}
use Rattle.gic_text.specs.Lines.{BegunLine, with_word}
use Rattle.gic_text.specs.Words.{FitsLine}

spaced-le : (begun : Bool) (word : List ℕ) → length (cond begun (32 ∷ word) word) ≤ length word + 1
spaced-le true word = omega arith
spaced-le false word = omega arith

-- a word takes its bytes and a space at most
pub length-with_word : (line : BegunLine) (word : List ℕ) → length (with_word line word).bytes ≤ length line.bytes + length word + 1
length-with_word line word =
    let sum = length-append line.bytes (cond line.begun (32 ∷ word) word) in
    let spaced = spaced-le line.begun word in
    omega arith

-- a decimal of a number of at most 128 bits takes 40 bytes at most
pub length-signed_decimal : (z : ℤ) → mag z < 2 ^ 128 → length (signed_decimal z) ≤ 40
length-signed_decimal (pos n) h = let few = length-decimal-le_wide 39 n (omega arith) (omega arith) (omega arith) in omega arith
length-signed_decimal (negsuc n) h = let few = length-decimal-le_wide 39 (suc n) (omega arith) (omega arith) (omega arith) in omega arith

-- a word fits where there is space for it and a space
pub fits_word : (line : BegunLine) (word : List ℕ) → length line.bytes + length word + 1 ≤ 512 → FitsLine (with_word line word)
fits_word line word h = let size = length-with_word line word in omega arith

-- a number fits where there is space for 41 bytes
pub fits_number : (line : BegunLine) (z : ℤ) → mag z < 2 ^ 128 → length line.bytes + 41 ≤ 512 → FitsLine (with_word line (signed_decimal z))
fits_number line z small h =
    let size = length-with_word line (signed_decimal z) in
    let few = length-signed_decimal z small in
    omega arith

-- for the proofs of functions that write a line
pub ruleset line_space = (fits_word, fits_number)
