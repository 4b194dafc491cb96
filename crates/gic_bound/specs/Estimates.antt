-- Estimates of a number.
use Rattle.std.specs.Prelude.{ℕ, ◌+◌, ◌≤◌, ℤ, pos, ◌+ℤ◌, ◌≤ℤ◌, unsigned_abs}
use Rattle.gic_base.specs.declared.limits.TheConstants.{FULL_WALK}
use Rattle.gic_bound.specs.declared.estimate.Estimate.{Estimate}

-- how far an entry is above another one, less 1, at most, either way
abbrev pub most_rise : ℕ
most_rise = FULL_WALK + 1

-- the number is off by at most as much as the estimate says, either way
pub record IsNear (estimate : Estimate) (z : ℤ) : Type 0 where
  pub below : estimate.about ≤ℤ (z +ℤ pos estimate.off)
  pub above : z ≤ℤ (estimate.about +ℤ pos estimate.off)

-- neither what it is about nor how far it is off is further than this from 0
pub record IsSmall (size : ℕ) (estimate : Estimate) : Type 0 where
  pub about : unsigned_abs estimate.about ≤ size
  pub off : estimate.off ≤ size
