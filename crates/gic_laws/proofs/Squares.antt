-- Squares of currents that are superposed.
use Rattle.std.proofs.Common.{◌≡◌, ℕ, zero, suc, ◌+◌, ◌*◌, ◌<◌, ◌≤◌, ℤ, pos, negsuc, ◌+ℤ◌, ◌*ℤ◌, arith, ap, sym, ◌∙◌}
use Rattle.std.proofs.lemmas.Int.{ints, unsigned_abs-mul}
use Rattle.std.proofs.Math.Nat.{mul-le-mul_left, mul-le-mul_right, le_of_mul-le-mul_left}
use Rattle.gic_fixed.proofs.Integers.{linear, *ℤ-+ℤ, +ℤ-*ℤ}
use Rattle.gic_criteria.specs.Worst.{square_of}
use Rattle.gic_laws.proofs.Products.{crossed}
use lib.IntN.{*ℤ_comm}

-- the square of a product
pub square-product : (a b : ℤ) → square_of (a *ℤ b) ≡ square_of a * square_of b
square-product a b = let e = ap (λ n. n * n) (unsigned_abs-mul a b) in omega (arith, e)

-- a square is the product of the number with itself
pub square-self : (z : ℤ) → z *ℤ z ≡ pos (square_of z)
square-self (pos n) = omega (arith, ints)
square-self (negsuc n) = omega (arith, ints)

-- what is superposed is at most as great as the two parts allow
pub square_most : (strength north east q x y : ℤ) (d : ℕ) →
    square_of (north *ℤ x +ℤ east *ℤ y) ≤ (square_of north + square_of east) * (square_of x + square_of y) →
    strength *ℤ q ≡ pos d *ℤ (north *ℤ x +ℤ east *ℤ y) →
    square_of north + square_of east ≤ square_of strength → 0 < square_of strength →
    square_of q ≤ (square_of x + square_of y) * square_of (pos d)
square_most strength north east q x y d cauchy is within some =
    let left = square-product strength q in
    let right = square-product (pos d) (north *ℤ x +ℤ east *ℤ y) in
    let same = ap square_of is in
    let greater = mul-le-mul_right (square_of x + square_of y) within in
    let times : d * d * square_of (north *ℤ x +ℤ east *ℤ y) ≤ d * d * (square_of strength * (square_of x + square_of y)) =
    mul-le-mul_left (d * d) (omega (arith, cauchy, greater)) in
    let whole : square_of strength * square_of q ≤ square_of strength * ((square_of x + square_of y) * (d * d)) = omega (arith, left, right, same, times) in
    le_of_mul-le-mul_left whole some

-- two numbers whose product is the square of a third
sum_squared : (x y z w : ℤ) → z ≡ w → x *ℤ y ≡ z *ℤ w → square_of (x +ℤ y) ≡ square_of x + square_of y + (square_of z + square_of w)
sum_squared x y z w same product =
    let first = *ℤ-+ℤ (x +ℤ y) x y in
    let second = +ℤ-*ℤ x y x in
    let third = +ℤ-*ℤ x y y in
    let turned = *ℤ_comm y x in
    let whole = square-self (x +ℤ y) in
    let one = square-self x in
    let other = square-self y in
    let square : z *ℤ w ≡ z *ℤ z = ap (λ v. z *ℤ v) (sym same) in
    let of_z = square-self z in
    let equal = ap square_of same in
    omega (arith, linear)

-- in a field that goes as the two parts do it is as great
pub square_reached : (strength north east q x y : ℤ) (d : ℕ) →
    strength *ℤ q ≡ pos d *ℤ (north *ℤ x +ℤ east *ℤ y) → north *ℤ y ≡ east *ℤ x →
    square_of strength * square_of q ≡ (square_of north + square_of east) * ((square_of x + square_of y) * square_of (pos d))
square_reached strength north east q x y d is aligned =
    let left = square-product strength q in
    let right = square-product (pos d) (north *ℤ x +ℤ east *ℤ y) in
    let same = ap square_of is in
    let sum = sum_squared (north *ℤ x) (east *ℤ y) (north *ℤ y) (east *ℤ x) aligned (crossed north x east y) in
    let first = square-product north x in
    let second = square-product east y in
    let third = square-product north y in
    let fourth = square-product east x in
    let plain : square_of (north *ℤ x +ℤ east *ℤ y) ≡ (square_of north + square_of east) * (square_of x + square_of y) = omega (arith, sum, first, second, third, fourth) in
    let times : d * d * square_of (north *ℤ x +ℤ east *ℤ y) ≡ d * d * ((square_of north + square_of east) * (square_of x + square_of y)) = ap (λ n. d * d * n) plain in
    omega (arith, left, right, same, times)

-- the same current over two denominators
same_plain : (q n m k d e f : ℕ) → q * (e * e) ≡ n * (d * d) → q * (k * e * f * (k * e * f)) ≤ (n * (f * f) + m) * (k * d * (k * d))
same_plain q n m k d e f is = let times = ap (λ z. k * f * (k * f) * z) is in omega arith

pub square_same : (q n m : ℤ) (k d e f : ℕ) → q *ℤ pos e ≡ n *ℤ pos d → square_of (q *ℤ pos (k * e * f)) ≤ (square_of (n *ℤ pos f) + square_of m) * square_of (pos (k * d))
square_same q n m k d e f is =
    let left : square_of (q *ℤ pos (k * e * f)) ≡ square_of q * (k * e * f * (k * e * f)) = square-product q (pos (k * e * f)) in
    let right : square_of (n *ℤ pos f) ≡ square_of n * (f * f) = square-product n (pos f) in
    let same : square_of q * (e * e) ≡ square_of n * (d * d) = sym (square-product q (pos e)) ∙ ap square_of is ∙ square-product n (pos d) in
    rw (left, right) (same_plain (square_of q) (square_of n) (square_of m) k d e f same)

-- n times a number has no lesser square
pub square_grows : (q z : ℤ) (k : ℕ) → 0 < k → square_of (q *ℤ z) ≤ square_of ((pos k *ℤ q) *ℤ z)
square_grows q z k some =
    let left = square-product q z in
    let inner : square_of (pos k *ℤ q) ≡ k * k * square_of q = square-product (pos k) q in
    let right = square-product (pos k *ℤ q) z ∙ ap (λ n. n * square_of z) inner in
    let more = mul-le-mul_right (square_of z) (grown (square_of q) k some) in
    omega (arith, left, right, more)
  where
    grown : (n k : ℕ) → 0 < k → n ≤ k * k * n
    grown n zero h = absurd (omega (arith, h))
    grown n (suc k) h = omega arith
