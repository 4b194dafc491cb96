-- A quotient in two parts.
use Rattle.std.proofs.Common.{◌≡◌, ℕ, ◌+◌, ◌*◌, ◌/◌, ◌<◌, ◌≤◌, ℤ, pos, ◌+ℤ◌, ◌*ℤ◌, ◌-ℤ◌, ◌≤ℤ◌, ◌<ℤ◌, unsigned_abs, arith, ap, mul-le-mul_left, div-add-mod', mod-lt}
use Rattle.std.proofs.lemmas.Int.{ints}
use borrow.Author.Differences.{up, down, sum_is_lem}
use Rattle.gic_fixed.proofs.Signs.{times_pos, abs_in}

module _ (d rest : ℕ) (low whole m : ℤ) (p : 0 < d) (le : low ≡ pos d *ℤ whole +ℤ pos rest) (me : m ≡ pos 4096 *ℤ whole +ℤ pos (4096 * rest / d)) where
  parts : (d * up m + 4096 * d * down whole ≡ d * down m + 4096 * d * up whole + d * (4096 * rest / d)) × (up low + d * down whole ≡ down low + d * up whole + rest)
  parts =
      let a = times_pos 4096 whole in
      let b : up m + 4096 * down whole ≡ down m + 4096 * up whole + 4096 * rest / d = omega (arith, ints, a, me) in
      (omega (arith, ap (λ n. d * n) b), omega (arith, ints, le, times_pos d whole))

  pub fall_below : (pos d *ℤ m) ≤ℤ (pos 4096 *ℤ low)
  fall_below = omega (arith, ints, parts, times_pos d m, times_pos 4096 low, div-add-mod' (4096 * rest) d)

  pub fall_above : (pos 4096 *ℤ low) <ℤ ((pos d *ℤ m) +ℤ pos d)
  fall_above = omega (arith, ints, parts, times_pos d m, times_pos 4096 low, div-add-mod' (4096 * rest) d, mod-lt (4096 * rest) p)

-- a guess that falls by m is as near to the exact one as rounding leaves it
target_up : (d den h g' g m' m r r' low low' t t' : ℕ) →
    d * m + 4096 * low' ≤ d * m' + 4096 * low →
    4096 * low + d * m' ≤ 4096 * low' + d * m + d →
    4096 * den * low + r' ≤ 4096 * den * low' + r →
    r + 4096 * den * low' ≤ r' + 4096 * den * low + 4096 * den * h →
    t + g' + m ≡ t' + g + m' →
    (d * den * t + d * den * g' + r ≤ den * (2 * d + 4096 * h) + d * den * t' + d * den * g + r') × (d * den * t' + d * den * g + r' ≤ den * (2 * d + 4096 * h) + d * den * t + d * den * g' + r)
target_up d den h g' g m' m r r' low low' t t' below above rl rh e =
    (omega (arith, mul-le-mul_left den below, mul-le-mul_left den above, rl, rh, ap (λ n. d * den * n) e), omega (arith, mul-le-mul_left den below, mul-le-mul_left den above, rl, rh, ap (λ n. d * den * n) e))

pub target_is : (d den h : ℕ) (low m g t r : ℤ) →
    (pos d *ℤ m) ≤ℤ (pos 4096 *ℤ low) → (pos 4096 *ℤ low) <ℤ ((pos d *ℤ m) +ℤ pos d) →
    (pos (4096 * den) *ℤ low) ≤ℤ r → r ≤ℤ (pos (4096 * den) *ℤ (low +ℤ pos h)) → t ≡ g -ℤ m →
    unsigned_abs ((pos (d * den) *ℤ (t -ℤ g)) +ℤ r) ≤ den * (2 * d + 4096 * h)
target_is d den h low m g t r below above rl rh e =
    let b : d * up m + 4096 * down low ≤ d * down m + 4096 * up low = omega (arith, ints, times_pos d m, times_pos 4096 low) in
    let a : 4096 * up low + d * down m ≤ 4096 * down low + d * up m + d = omega (arith, ints, times_pos d m, times_pos 4096 low) in
    let l : 4096 * den * up low + down r ≤ 4096 * den * down low + up r = omega (arith, ints, times_pos (4096 * den) low) in
    let sum : up (low +ℤ pos h) + down low ≡ down (low +ℤ pos h) + up low + h = omega (arith, ints) in
    let s = ap (λ n. 4096 * den * n) sum in
    let u : up r + 4096 * den * down low ≤ down r + 4096 * den * up low + 4096 * den * h = omega (arith, ints, times_pos (4096 * den) (low +ℤ pos h), s) in
    let te : up t + down g + up m ≡ down t + up g + down m = omega (arith, ints) in
    let two = target_up d den h (down g) (up g) (down m) (up m) (up r) (down r) (up low) (down low) (up t) (down t) b a l u te in
    let inner : up (t -ℤ g) + down t + up g ≡ down (t -ℤ g) + up t + down g = omega (arith, ints) in
    let i = ap (λ n. d * den * n) inner in
    let whole = sum_is_lem (pos (d * den) *ℤ (t -ℤ g)) r in
    let product = times_pos (d * den) (t -ℤ g) in
    let big : 1 * unsigned_abs ((pos (d * den) *ℤ (t -ℤ g)) +ℤ r) ≤ den * (2 * d + 4096 * h) = abs_in 1 (den * (2 * d + 4096 * h)) ((pos (d * den) *ℤ (t -ℤ g)) +ℤ r) (omega (arith, two, i, whole, product)) (omega (arith, two, i, whole, product)) in
    omega (arith, big)
