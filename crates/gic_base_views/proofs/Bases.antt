-- Intervals that can be superposed.
use Rattle.std.proofs.Common.{◌≡◌, ℕ, ◌*◌, ◌^◌, ◌≤◌, ℤ, ◌≤ℤ◌, arith, subst}
use Rattle.gic_fixed.specs.Encloses.{Encloses, IsWithin}
use Rattle.gic_fixed.specs.Ends.{Ends, IsAtMostWide}
use Rattle.gic_fixed.proofs.Widths.{wider}
use Rattle.gic_superpose.specs.Pairs.{most_base}
use Rattle.gic_superpose.specs.Superposed.{IsNarrowBase}

-- over the denominator once
pub once_held : (lo hi n : ℤ) (d : ℕ) → Encloses lo hi n d → Encloses lo hi n (1 * d)
once_held lo hi n d held = let once : d ≡ 1 * d = omega arith in subst (λ (m : ℕ). Encloses lo hi n m) once held

pub narrow_from : (ends : Ends) (width : ℕ) → width ≤ 1000 → ends.low ≤ℤ ends.high → IsAtMostWide width ends.low ends.high → IsNarrowBase ends
narrow_from ends width most order wide = record { ordered = order; width = wider ends.low ends.high width 1000 most wide }

pub base_within : (m : ℕ) (lo hi : ℤ) → m ≤ most_base → IsWithin m lo hi → IsWithin most_base lo hi
base_within m lo hi less within = record { low = omega (arith, less, within.low); high = omega (arith, less, within.high) }
