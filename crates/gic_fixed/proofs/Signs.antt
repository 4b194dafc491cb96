-- Absolute values, products and rounded quotients by the two parts of a whole number, `up` where it is above 0 and `down` where it is below.
use Rattle.std.proofs.Common.{◌≡◌, ℕ, ◌+◌, ◌*◌, ◌≤◌, ◌<◌, arith, ℤ, pos, negsuc, ◌-ℤ◌, ◌*ℤ◌, unsigned_abs, div-add-mod', mod-lt}
use Rattle.std.proofs.lemmas.Int.{ints}
use Rattle.gic_fixed.specs.Rounding.{floor_div}
use borrow.Author.Differences.{up, down, product_is}

-- a bound on a multiple of an absolute value is two bounds
pub abs_out : (c m : ℕ) (z : ℤ) → c * unsigned_abs z ≤ m → (c * up z ≤ m + c * down z) × (c * down z ≤ m + c * up z)
abs_out c m (pos n) h = (omega arith, omega arith)
abs_out c m (negsuc n) h = (omega arith, omega arith)

pub abs_in : (c m : ℕ) (z : ℤ) → c * up z ≤ m + c * down z → c * down z ≤ m + c * up z → c * unsigned_abs z ≤ m
abs_in c m (pos n) h g = omega arith
abs_in c m (negsuc n) h g = omega arith

-- how far apart two numbers are
pub apart_le : (a b : ℤ) (m n : ℕ) → unsigned_abs a ≤ m → unsigned_abs b ≤ n → unsigned_abs (b -ℤ a) ≤ m + n
apart_le a b m n p q = omega (arith, ints)

-- a product with a natural number
pub times_pos : (m : ℕ) (z : ℤ) → (up (pos m *ℤ z) ≡ m * up z) × (down (pos m *ℤ z) ≡ m * down z)
times_pos m (pos n) = (omega (arith, product_is (pos m) (pos n)), omega (arith, product_is (pos m) (pos n)))
times_pos m (negsuc n) = (omega (arith, product_is (pos m) (negsuc n)), omega (arith, product_is (pos m) (negsuc n)))

-- a quotient rounded down is at most the exact one
pub floor_parts_le : (r : ℕ) (z : ℤ) → 0 < r → up (floor_div z (pos r)) * r + down z ≤ down (floor_div z (pos r)) * r + up z
floor_parts_le r (pos a) p = omega (arith, div-add-mod' a r)
floor_parts_le r (negsuc a) p = omega (arith, div-add-mod' a r, mod-lt a p)

-- and above the exact one less one
pub floor_parts_gt : (r : ℕ) (z : ℤ) → 0 < r → up z + down (floor_div z (pos r)) * r < down z + up (floor_div z (pos r)) * r + r
floor_parts_gt r (pos a) p = omega (arith, div-add-mod' a r, mod-lt a p)
floor_parts_gt r (negsuc a) p = omega (arith, div-add-mod' a r)
