-- What a cut does to numbers.
use Rattle.std.proofs.Common.{◌≡◌, ◌^◌, ◌≤◌, arith, ℤ, ◌-ℤ◌, unsigned_abs}
use Rattle.std.proofs.lemmas.Int.{ints, clamps}
use Rattle.gic_model.specs.Guess.{cut}

-- it brings no two numbers further apart
pub cut_apart : (a b : ℤ) → unsigned_abs (cut b -ℤ cut a) ≤ unsigned_abs (b -ℤ a)
cut_apart a b = omega (arith, ints, clamps)

-- it takes none further from a number within the limit
pub cut_towards : (a p : ℤ) → unsigned_abs p ≤ 2 ^ 96 → unsigned_abs (cut a -ℤ p) ≤ unsigned_abs (a -ℤ p)
cut_towards a p h = omega (arith, ints, clamps, h)

-- what it leaves is within the limit
pub cut_most : (a : ℤ) → unsigned_abs (cut a) ≤ 2 ^ 96
cut_most a = omega (arith, ints, clamps)

-- and what is within the limit stays
pub cut_same : (t : ℤ) → unsigned_abs t ≤ 2 ^ 96 → cut t ≡ t
cut_same t h = omega (arith, ints, clamps)
