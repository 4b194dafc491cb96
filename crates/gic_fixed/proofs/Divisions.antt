-- Quotients rounded down and up: what they are between, and that nothing else is.
use Rattle.std.proofs.Common.{◌≡◌, ℕ, ◌+◌, ◌*◌, ◌/◌, ◌%◌, ◌<◌, ◌≤◌, ℤ, pos, negsuc, ◌+ℤ◌, ◌-ℤ◌, ◌*ℤ◌, neg_ℤ, ◌≤ℤ◌, ◌<ℤ◌, SFits, ◌^◌, arith, ap, sym, ◌∙◌}
use Rattle.std.proofs.lemmas.Int.{ints, by_lt_z, fits_signed_from_abs}
use Rattle.std.specs.Int.{w128}
use Rattle.std.specs.Int.{int_div_euclid, int_rem_euclid}
use Rattle.std.proofs.Math.Nat.{lt-mul-div-succ, mul-div-le, div-div-eq-div-mul, mul-le-mul}
use Rattle.gic_fixed.specs.Rounding.{floor_div, ceil_div}
use Rattle.gic_fixed.proofs.Integers.{linear, mul-int_div_euclid, *ℤ-≤ℤ, ≤ℤ-from_*ℤ, *ℤ-+ℤ, *ℤ--ℤ, *ℤ-neg_ℤ, *ℤ_assoc}

-- d times one more
one_more : (d : ℕ) (q : ℤ) → pos d *ℤ (q +ℤ pos 1) ≡ (pos d *ℤ q) +ℤ pos d
one_more d q = let e = *ℤ-+ℤ (pos d) q (pos 1) in omega (arith, ints)

-- below d times one more
pub below_one_more : (d : ℕ) (a b : ℤ) → (pos d *ℤ a) <ℤ ((pos d *ℤ b) +ℤ pos d) → a ≤ℤ b
below_one_more d a b k =
    by_lt_z b a (λ more. let most = *ℤ-≤ℤ d (b +ℤ pos 1) a (omega (arith, ints)) in let e = one_more d b in omega (arith, linear)) (λ less. less)

pub floor_below : (z : ℤ) (d : ℕ) → 0 < d → (pos d *ℤ floor_div z (pos d)) ≤ℤ z
floor_below z d h = mul-int_div_euclid z d h

pub floor_above : (z : ℤ) (d : ℕ) → 0 < d → z <ℤ ((pos d *ℤ floor_div z (pos d)) +ℤ pos d)
floor_above (pos a) d h = let e = lt-mul-div-succ a h in omega (arith, ints)
floor_above (negsuc a) d h = let e = mul-div-le a d in omega (arith, ints)

-- what is at most z / d is at most the quotient rounded down
pub floor_ge : (z : ℤ) (d : ℕ) (q : ℤ) → 0 < d → (pos d *ℤ q) ≤ℤ z → q ≤ℤ floor_div z (pos d)
floor_ge z d q h below =
    let above = floor_above z d h in
    below_one_more d q (floor_div z (pos d)) (omega (arith, linear))

pub floor_le : (z : ℤ) (d : ℕ) (q : ℤ) → 0 < d → z <ℤ ((pos d *ℤ q) +ℤ pos d) → floor_div z (pos d) ≤ℤ q
floor_le z d q h above =
    let below = floor_below z d h in
    below_one_more d (floor_div z (pos d)) q (omega (arith, linear))

pub floor_is : (z : ℤ) (d : ℕ) (q : ℤ) → 0 < d → (pos d *ℤ q) ≤ℤ z → z <ℤ ((pos d *ℤ q) +ℤ pos d) → floor_div z (pos d) ≡ q
floor_is z d q h below above =
    let least = floor_ge z d q h below in
    let most = floor_le z d q h above in
    omega (arith, ints)

pub ceil_above : (z : ℤ) (d : ℕ) → 0 < d → z ≤ℤ (pos d *ℤ ceil_div z (pos d))
ceil_above z d h =
    let below = floor_below (neg_ℤ z) d h in
    let e = *ℤ-neg_ℤ (pos d) (floor_div (neg_ℤ z) (pos d)) in
    omega (arith, linear)

pub ceil_below : (z : ℤ) (d : ℕ) → 0 < d → (pos d *ℤ ceil_div z (pos d)) <ℤ (z +ℤ pos d)
ceil_below z d h =
    let above = floor_above (neg_ℤ z) d h in
    let e = *ℤ-neg_ℤ (pos d) (floor_div (neg_ℤ z) (pos d)) in
    omega (arith, linear)

-- what is at least z / d is at least the quotient rounded up
pub ceil_le : (z : ℤ) (d : ℕ) (q : ℤ) → 0 < d → z ≤ℤ (pos d *ℤ q) → ceil_div z (pos d) ≤ℤ q
ceil_le z d q h above =
    let below = ceil_below z d h in
    below_one_more d (ceil_div z (pos d)) q (omega (arith, linear))

pub ceil_is : (z : ℤ) (d : ℕ) (q : ℤ) → 0 < d → z ≤ℤ (pos d *ℤ q) → (pos d *ℤ q) <ℤ (z +ℤ pos d) → ceil_div z (pos d) ≡ q
ceil_is z d q h above below =
    let most = ceil_le z d q h above in
    let under = ceil_above z d h in
    let least : q ≤ℤ ceil_div z (pos d) = below_one_more d q (ceil_div z (pos d)) (omega (arith, linear)) in
    omega (arith, ints)

-- a quotient with its rest
pub quotient_rest : (z : ℤ) (d : ℕ) → 0 < d → z ≡ (pos d *ℤ int_div_euclid z (pos d)) +ℤ int_rem_euclid z (pos d)
quotient_rest (pos a) d h = let e = mul-div-le a d in omega (arith, ints)
quotient_rest (negsuc a) d h = let e = mul-div-le a d in omega (arith, ints)

-- nested quotients agree with the one by the product
pub floor-floor : (z : ℤ) (a b : ℕ) → floor_div (floor_div z (pos a)) (pos b) ≡ floor_div z (pos (a * b))
floor-floor (pos x) a b = ap pos (div-div-eq-div-mul x a b)
floor-floor (negsuc x) a b = ap negsuc (div-div-eq-div-mul x a b)

pub neg-neg : (z : ℤ) → neg_ℤ (neg_ℤ z) ≡ z
neg-neg z = omega (arith, ints)

pub ceil-ceil : (z : ℤ) (a b : ℕ) → ceil_div (ceil_div z (pos a)) (pos b) ≡ ceil_div z (pos (a * b))
ceil-ceil z a b =
    ap (λ (w : ℤ). neg_ℤ (int_div_euclid w (pos b))) (neg-neg (floor_div (neg_ℤ z) (pos a))) ∙ ap neg_ℤ (floor-floor (neg_ℤ z) a b)

pub positive_product : (c d : ℕ) → 0 < c → 0 < d → 0 < c * d
positive_product c d h k = let one : 1 * 1 ≤ c * d = mul-le-mul h k in omega arith

-- a factor of both is cancelled
pub floor-cancel : (c : ℕ) (z : ℤ) (d : ℕ) → 0 < c → 0 < d → floor_div (pos c *ℤ z) (pos (c * d)) ≡ floor_div z (pos d)
floor-cancel c z d h k =
    let q = floor_div z (pos d) in
    let below = *ℤ-≤ℤ c (pos d *ℤ q) z (floor_below z d k) in
    let above = *ℤ-≤ℤ c (z +ℤ pos 1) ((pos d *ℤ q) +ℤ pos d) (let e = floor_above z d k in omega (arith, linear)) in
    let one = one_more c z in
    let sum = *ℤ-+ℤ (pos c) (pos d *ℤ q) (pos d) in
    let same : (pos c *ℤ pos d) *ℤ q ≡ pos c *ℤ (pos d *ℤ q) = *ℤ_assoc (pos c) (pos d) q in
    floor_is (pos c *ℤ z) (c * d) q (positive_product c d h k) (omega (arith, linear)) (omega (arith, linear))

-- how much wider an outward division may make an interval
pub outward_width : (lo hi : ℤ) (d k : ℕ) → 0 < d → (hi -ℤ lo) ≤ℤ pos (d * k) → (ceil_div hi (pos d) -ℤ floor_div lo (pos d)) ≤ℤ pos (k + 1)
outward_width lo hi d k h wide =
    let low = floor_above lo d h in
    let high = ceil_below hi d h in
    let parts = *ℤ--ℤ (pos d) (ceil_div hi (pos d)) (floor_div lo (pos d)) in
    let more : pos d *ℤ pos (k + 1) ≡ pos (d * k + d) = omega (arith, ints) in
    below_one_more d (ceil_div hi (pos d) -ℤ floor_div lo (pos d)) (pos (k + 1)) (omega (arith, linear))

-- the rest is from 0 to below the divisor
pub rest_within : (z : ℤ) (d : ℕ) → 0 < d → (pos 0 ≤ℤ int_rem_euclid z (pos d)) × (int_rem_euclid z (pos d) <ℤ pos d)
rest_within (pos a) d h = (omega (arith, ints), omega (arith, ints))
rest_within (negsuc a) d h = (omega (arith, ints), omega (arith, ints))

-- a quotient rounded up, as it is computed
pub ceil_same : (a d : ℤ) → pos 0 <ℤ d → int_rem_euclid a d ≡ pos 0 → ceil_div a d ≡ int_div_euclid a d
ceil_same a (pos n) h e =
    let parts = quotient_rest a n (omega (arith, ints)) in
    ceil_is a n (int_div_euclid a (pos n)) (omega (arith, ints)) (omega (arith, linear)) (omega (arith, linear))
ceil_same a (negsuc n) h e = absurd (omega (arith, ints))

pub ceil_next : (a d : ℤ) → pos 0 <ℤ d → (int_rem_euclid a d ≡ pos 0 → ⊥) → ceil_div a d ≡ int_div_euclid a d +ℤ pos 1
ceil_next a (pos n) h e =
    let parts = quotient_rest a n (omega (arith, ints)) in
    let within = rest_within a n (omega (arith, ints)) in
    let some : pos 0 <ℤ int_rem_euclid a (pos n) = by_lt_z (pos 0) (int_rem_euclid a (pos n)) (λ k. k) (λ k. absurd (e (omega (arith, linear, within.0)))) in
    let more = one_more n (int_div_euclid a (pos n)) in
    ceil_is a n (int_div_euclid a (pos n) +ℤ pos 1) (omega (arith, ints)) (omega (arith, linear, within.1)) (omega (arith, linear))
ceil_next a (negsuc n) h e = absurd (omega (arith, ints))

turned_fits : (q : ℕ) → q < 2 ^ 127 → SFits w128 (negsuc q +ℤ pos 1)
turned_fits q h = fits_signed_from_abs w128 (negsuc q +ℤ pos 1) (omega (arith, ints))

-- and it fits where the number does
pub next_fits : (a d : ℤ) → SFits w128 a → pos 0 <ℤ d → (int_rem_euclid a d ≡ pos 0 → ⊥) → SFits w128 (int_div_euclid a d +ℤ pos 1)
next_fits (pos x) (pos n) fits h e =
    let some : x % n ≡ 0 → ⊥ = λ k. e (ap pos k) in
    let parts = mul-div-le x n in
    let more : 1 * (x / n) ≤ n * (x / n) = mul-le-mul (omega (arith, ints)) (omega arith) in
    record { sfits = omega (arith, ints, fits.sfits) }
next_fits (negsuc x) (pos n) fits h e = turned_fits (x / n) (let parts = mul-div-le x n in let more : 1 * (x / n) ≤ n * (x / n) = mul-le-mul (omega (arith, ints)) (omega arith) in omega (arith, ints, fits.sfits))
next_fits a (negsuc n) fits h e = absurd (omega (arith, ints))

-- outward ends are in order
pub floor_le_ceil : (lo hi d : ℤ) → pos 0 <ℤ d → lo ≤ℤ hi → floor_div lo d ≤ℤ ceil_div hi d
floor_le_ceil lo hi (pos n) h order =
    let low = floor_below lo n (omega (arith, ints)) in
    let high = ceil_above hi n (omega (arith, ints)) in
    ≤ℤ-from_*ℤ n _ _ (omega (arith, ints)) (omega (arith, linear))
floor_le_ceil lo hi (negsuc n) h order = absurd (omega (arith, ints))

pub ceil-cancel : (c : ℕ) (z : ℤ) (d : ℕ) → 0 < c → 0 < d → ceil_div (pos c *ℤ z) (pos (c * d)) ≡ ceil_div z (pos d)
ceil-cancel c z d h k =
    ap (λ (w : ℤ). neg_ℤ (int_div_euclid w (pos (c * d)))) (sym (*ℤ-neg_ℤ (pos c) z)) ∙ ap neg_ℤ (floor-cancel c (neg_ℤ z) d h k)

-- rounding up is at most one above rounding down
pub ceil-floor : (z : ℤ) (d : ℕ) → 0 < d → (ceil_div z (pos d) -ℤ floor_div z (pos d)) ≤ℤ pos 1
ceil-floor z d h = outward_width z z d 0 h (omega (arith, ints))
