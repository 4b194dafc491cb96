-- Bits turned by a sign: those of the number itself, and those of another one.
use Rattle.std.proofs.Common.{arith, ◌≡◌, ℕ, suc, ◌/◌, ◌%◌, ◌^◌, ◌<◌, ◌-◌, ap, ◌∙◌, ℤ, pos, negsuc, bit_xor, Fits, SFits, to_z, of_z, T, nat_abs}
use Rattle.std.specs.Int.{w128}
use Rattle.std.specs.Int.Bits.{xor_add_and, xor_zero_r}
use Rattle.std.specs.Int.Signed.{mag, non_neg, shr_z}
use Rattle.std.proofs.lemmas.Nat.{and_mask}
use Rattle.std.proofs.lemmas.Int.{ints, to_z-of_z}
use Rattle.std.proofs.Math.Facts.{to_z_pos}

-- each bit is turned by all ones
turned : (n : ℕ) → n < 2 ^ 128 → bit_xor n (2 ^ 128 - 1) ≡ 2 ^ 128 - 1 - n
turned n h = let same : n % 2 ^ 128 ≡ n = omega arith in omega (arith, xor_add_and n (2 ^ 128 - 1), and_mask n 128, same)

-- the highest bit of a number, at each place
abbrev pub signs : ℤ → ℕ
signs z = of_z w128 (shr_z (to_z w128 (of_z w128 z)) (2 ^ 127))

zeros : (n : ℕ) → SFits w128 (pos n) → signs (pos n) ≡ 0
zeros n fits =
    let none : n / 2 ^ 127 ≡ 0 = omega (arith, fits.sfits) in
    ap (λ x. of_z w128 (shr_z x (2 ^ 127))) (to_z-of_z w128 (pos n) fits) ∙ ap (λ k. of_z w128 (pos k)) none

ones : (n : ℕ) → SFits w128 (negsuc n) → signs (negsuc n) ≡ 2 ^ 128 - 1
ones n fits =
    let none : n / 2 ^ 127 ≡ 0 = omega (arith, fits.sfits) in
    ap (λ x. of_z w128 (shr_z x (2 ^ 127))) (to_z-of_z w128 (negsuc n) fits) ∙ ap (λ k. of_z w128 (negsuc k)) none

turned_with : (n m : ℕ) → n < 2 ^ 128 → SFits w128 (negsuc m) → bit_xor n (signs (negsuc m)) ≡ 2 ^ 128 - 1 - n
turned_with n m h fits = ap (bit_xor n) (ones m fits) ∙ turned n h

pub depth_is : (z : ℤ) → SFits w128 z → to_z w128 (bit_xor (of_z w128 z) (signs z)) ≡ pos (mag z)
depth_is (pos n) fits = ap (λ k. to_z w128 (bit_xor n k)) (zeros n fits) ∙ ap (to_z w128) (xor_zero_r n) ∙ to_z_pos w128 fits.sfits
depth_is (negsuc n) fits =
    let small : n < 2 ^ 127 = fits.sfits in
    let back : 2 ^ 128 - 1 - (2 ^ 128 - suc n) ≡ n = omega arith in
    ap (to_z w128) (turned_with (2 ^ 128 - suc n) n (omega arith) fits ∙ back) ∙ to_z_pos w128 small

pub below_is : (n : ℕ) (z : ℤ) {m : ℕ} → n < 2 ^ 127 → SFits w128 z → z ≡ negsuc m → to_z w128 (bit_xor n (signs z)) ≡ negsuc n
below_is n (pos k) h fits e = absurd (omega (arith, ints, e))
below_is n (negsuc k) h fits e =
    let back : 2 ^ 128 - 1 - n ≡ 2 ^ 128 - suc n = omega arith in
    ap (to_z w128) (turned_with n k (omega arith) fits ∙ back) ∙ to_z-of_z w128 (negsuc n) (record { sfits = h })

pub cast_fits : (z : ℤ) (n : ℕ) → z ≡ pos n → n < 2 ^ 127 → T (non_neg z) × Fits w128 (nat_abs z)
cast_fits (pos m) n e h = (tt, record { fits = omega (arith, ints, e) })
cast_fits (negsuc m) n e h = absurd (omega (arith, ints, e))
