-- Squares and sums of two squares.
use Rattle.std.proofs.Common.{◌≡◌, ℕ, ◌+◌, ◌*◌, ◌-◌, ◌<◌, ◌≤◌, ◌⊎◌, inl, inr, ℤ, pos, ◌+ℤ◌, ◌*ℤ◌, unsigned_abs, arith, ap}
use Rattle.std.proofs.lemmas.Int.{ints, unsigned_abs-mul}
use Rattle.std.proofs.lemmas.Bool.{cases_lt}
use Rattle.std.proofs.Math.Nat.{mul-le-mul, mul-le-mul_left}
use Rattle.gic_criteria.specs.Worst.{square_of}

-- twice a product is at most the sum of the squares
twice_of : (u v : ℕ) → u ≤ v → 2 * (u * v) ≤ u * u + v * v
twice_of u v h =
    let k = v - u in
    let e : v ≡ u + k = omega arith in
    let product = ap (λ z. u * z) e in
    let square : v * v ≡ (u + k) * (u + k) = ap (λ z. z * z) e in
    omega arith

twice_by : (u v : ℕ) → ((u < v) ⊎ (v ≤ u)) → 2 * (u * v) ≤ u * u + v * v
twice_by u v (inl h) = twice_of u v (omega arith)
twice_by u v (inr h) = let e = twice_of v u h in omega arith

pub twice : (u v : ℕ) → 2 * (u * v) ≤ u * u + v * v
twice u v = twice_by u v (cases_lt u v)

-- (x p + y q)² ≤ (x² + y²) (p² + q²)
pub cauchy : (x y p q : ℕ) → (x * p + y * q) * (x * p + y * q) ≤ (x * x + y * y) * (p * p + q * q)
cauchy x y p q = let e = twice (x * q) (y * p) in omega arith

-- squares keep the order, and give it back
pub square-le : (a b : ℕ) → a ≤ b → a * a ≤ b * b
square-le a b h = mul-le-mul h h

from_square : (a b : ℕ) → a * a ≤ b * b → ((b < a) ⊎ (a ≤ b)) → a ≤ b
from_square a b h (inl k) = let e : (b + 1) * (b + 1) ≤ a * a = square-le (b + 1) a (omega arith) in omega arith
from_square a b h (inr k) = k

pub square-le-back : (a b : ℕ) → a * a ≤ b * b → a ≤ b
square-le-back a b h = from_square a b h (cases_lt b a)

-- a sum of two squares of fractions, from below and from above
pub sum_above : (f a b n m d e : ℕ) → f * f ≤ a * a + b * b → a * d ≤ n → b * e ≤ m → f * (d * e) * (f * (d * e)) ≤ n * e * (n * e) + m * d * (m * d)
sum_above f a b n m d e h p q =
    let one = mul-le-mul_left (e * e) (square-le (a * d) n p) in
    let other = mul-le-mul_left (d * d) (square-le (b * e) m q) in
    let sum = mul-le-mul_left (d * d * (e * e)) h in
    omega arith

pub sum_below : (f a b n m d e : ℕ) → a * a + b * b ≤ f * f → n ≤ a * d → m ≤ b * e → n * e * (n * e) + m * d * (m * d) ≤ f * (d * e) * (f * (d * e))
sum_below f a b n m d e h p q =
    let one = mul-le-mul_left (e * e) (square-le n (a * d) p) in
    let other = mul-le-mul_left (d * d) (square-le m (b * e) q) in
    let sum = mul-le-mul_left (d * d * (e * e)) h in
    omega arith

-- the square of a product with a denominator
pub square-times : (z : ℤ) (d : ℕ) → square_of (z *ℤ pos d) ≡ unsigned_abs z * d * (unsigned_abs z * d)
square-times z d = ap (λ n. n * n) (unsigned_abs-mul z (pos d))

-- the theorem of all orientations
pub orientations : (a b c s : ℤ) → square_of (a *ℤ c +ℤ b *ℤ s) ≤ (square_of a + square_of b) * (square_of c + square_of s)
orientations a b c s =
    let one = unsigned_abs-mul a c in
    let other = unsigned_abs-mul b s in
    let most : unsigned_abs (a *ℤ c +ℤ b *ℤ s) ≤ unsigned_abs (a *ℤ c) + unsigned_abs (b *ℤ s) = sum_most (a *ℤ c) (b *ℤ s) in
    let bound : unsigned_abs (a *ℤ c +ℤ b *ℤ s) ≤ unsigned_abs a * unsigned_abs c + unsigned_abs b * unsigned_abs s = omega arith in
    let squares = square-le _ _ bound in
    let last = cauchy (unsigned_abs a) (unsigned_abs b) (unsigned_abs c) (unsigned_abs s) in
    omega arith
  where
    sum_most : (x y : ℤ) → unsigned_abs (x +ℤ y) ≤ unsigned_abs x + unsigned_abs y
    sum_most x y = omega (arith, ints)

-- the length of a pair grows by at most twice what its parts grow by
sum_of_parts : (l a b : ℕ) → a * a + b * b < (l + 1) * (l + 1) → ((3 * (l + 1) < 2 * (a + b)) ⊎ (2 * (a + b) ≤ 3 * (l + 1))) → 2 * (a + b) ≤ 3 * (l + 1)
sum_of_parts l a b h (inl k) =
    let far = square-le (3 * (l + 1)) (2 * (a + b)) (omega arith) in
    let e = twice a b in
    omega arith
sum_of_parts l a b h (inr k) = k

pub length_grows : (l a b a' b' w : ℕ) → 2 ≤ w → a * a + b * b < (l + 1) * (l + 1) → a' ≤ a + w → b' ≤ b + w → a' * a' + b' * b' ≤ (l + 2 * w) * (l + 2 * w)
length_grows l a b a' b' w h k p q =
    let parts = sum_of_parts l a b k (cases_lt (3 * (l + 1)) (2 * (a + b))) in
    let one = square-le a' (a + w) p in
    let other = square-le b' (b + w) q in
    let times = mul-le-mul_left w parts in
    let more = mul-le-mul_left l h in
    let wide = mul-le-mul_left w h in
    omega arith
