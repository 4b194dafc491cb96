-- A factor of 32 bits, times what counts of a current.
use Rattle.std.proofs.Common.{ℕ, ◌*◌, ◌^◌, ◌<◌, ◌≤◌, ℤ, pos, negsuc, ◌*ℤ◌, ◌≤ℤ◌, FitsSigned, arith}
use Rattle.std.proofs.lemmas.Int.{ints, fits_signed_from_abs}
use Rattle.std.proofs.Math.Nat.{mul-le-mul}
use Rattle.std.specs.Int.{w128}
use Rattle.gic_monitor.specs.LossText.{most_counted_current}
use lib.IntN.{*ℤ_comm}

-- a product of plain numbers
product : (n k : ℕ) → n ≤ most_counted_current → k < 2 ^ 32 → k * n ≤ 2 ^ 102
product n k h small = let most : k * n ≤ 2 ^ 32 * 2 ^ 70 = mul-le-mul {n₁ = k} {m₁ = n} {n₂ = 2 ^ 32} {m₂ = 2 ^ 70} (omega arith) h in omega arith

-- it is from 0 to 2^102
pub record IsSmall (z : ℤ) : Type 0 where
  pub least : pos 0 ≤ℤ z
  pub most : z ≤ℤ pos (2 ^ 102)

pub small_product : (z : ℤ) (k : ℕ) → pos 0 ≤ℤ z → z ≤ℤ pos most_counted_current → k < 2 ^ 32 → IsSmall (pos k *ℤ z)
small_product (pos n) k h most small = let times = product n k (omega (arith, ints)) small in record { least = omega (arith, ints); most = omega (arith, ints) }
small_product (negsuc n) k h most small = absurd (omega (arith, ints))

-- so it fits
pub fits_product : (z : ℤ) (k : ℕ) → pos 0 ≤ℤ z → z ≤ℤ pos most_counted_current → k < 2 ^ 32 → FitsSigned w128 (z *ℤ pos k)
fits_product z k h most small =
    let few = small_product z k h most small in
    let turned = *ℤ_comm z (pos k) in
    fits_signed_from_abs w128 (z *ℤ pos k) (omega (arith, ints))
