-- What a view keeps.
use Rattle.std.proofs.Common.{ℕ, ◌≤◌, ℤ, arith}
use Rattle.gic_fixed.specs.Encloses.{IsWithin}
use Rattle.gic_view.specs.Bounds.{most_kept}

-- ends that are within less fit
pub fits : (m : ℕ) (lo hi : ℤ) → m ≤ most_kept → IsWithin m lo hi → IsWithin most_kept lo hi
fits m lo hi less within = record { low = omega (arith, less, within.low); high = omega (arith, less, within.high) }
