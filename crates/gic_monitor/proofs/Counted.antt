-- Ends that are cut before their absolute values are taken.
use Rattle.std.proofs.Common.{◌≡◌, ℕ, ℤ, pos, neg_ℤ, ◌≤ℤ◌, arith}
use Rattle.std.proofs.lemmas.Int.{ints, clamps}
use Rattle.std.specs.Int.{int_min, int_max}
use Rattle.gic_fixed.specs.Rounding.{least_abs, greatest_abs}

-- a number cut to m either way
abbrev pub cut_to : (m : ℕ) → ℤ → ℤ
cut_to m z = int_max (neg_ℤ (pos m)) (int_min z (pos m))

-- the absolute values of numbers that are cut are the absolute values cut
pub least_of_cut : (m : ℕ) (lo hi : ℤ) → least_abs (cut_to m lo) (cut_to m hi) ≡ int_min (least_abs lo hi) (pos m)
least_of_cut m lo hi = omega (arith, ints, clamps)

pub greatest_of_cut : (m : ℕ) (lo hi : ℤ) → lo ≤ℤ hi → greatest_abs (cut_to m lo) (cut_to m hi) ≡ int_min (greatest_abs lo hi) (pos m)
greatest_of_cut m lo hi ordered = omega (arith, ints, clamps)

-- and they are from 0 to m
pub least_counted : (m : ℕ) (lo hi : ℤ) → pos 0 ≤ℤ int_min (least_abs lo hi) (pos m)
least_counted m lo hi = omega (arith, ints, clamps)

pub most_counted : (m : ℕ) (z : ℤ) → int_min z (pos m) ≤ℤ pos m
most_counted m z = omega (arith, ints, clamps)
