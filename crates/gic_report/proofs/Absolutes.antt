-- Absolute values between two ends.
use Rattle.std.proofs.Common.{ℕ, ℤ, arith}
use Rattle.std.proofs.lemmas.Int.{ints, clamps}
use Rattle.gic_fixed.specs.Ends.{IsAtMostWide}
use Rattle.gic_fixed.specs.Rounding.{least_abs, greatest_abs}

-- the absolute values of the numbers between two ends are no further apart than the ends
pub absolute_narrow : (lo hi : ℤ) (width : ℕ) → IsAtMostWide width lo hi → IsAtMostWide width (least_abs lo hi) (greatest_abs lo hi)
absolute_narrow lo hi width narrow = omega (arith, ints, clamps, narrow)
