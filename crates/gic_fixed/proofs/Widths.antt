-- How wide intervals are.
use Rattle.std.proofs.Common.{ℕ, ◌*◌, ◌≤◌, ℤ, pos, ◌-ℤ◌, ◌*ℤ◌, ◌≤ℤ◌, arith}
use Rattle.gic_fixed.specs.Ends.{IsAtMostWide}
use Rattle.gic_fixed.proofs.Integers.{linear, *ℤ-≤ℤ, *ℤ--ℤ}

-- c times an interval is at most c times as wide
pub times_width : (lo hi : ℤ) (c w : ℕ) → IsAtMostWide w lo hi → IsAtMostWide (c * w) (pos c *ℤ lo) (pos c *ℤ hi)
times_width lo hi c w h =
    let parts = *ℤ--ℤ (pos c) hi lo in
    let times : (pos c *ℤ (hi -ℤ lo)) ≤ℤ pos (c * w) = *ℤ-≤ℤ c _ (pos w) h in
    omega (arith, linear)

-- an interval that is at most a wide is at most b wide, where b is a or more
pub wider : (lo hi : ℤ) (a b : ℕ) → a ≤ b → IsAtMostWide a lo hi → IsAtMostWide b lo hi
wider lo hi a b h k = omega (arith, linear)
