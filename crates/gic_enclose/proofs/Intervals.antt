-- The ends of intervals.
use Rattle.std.proofs.Common.{◌≡◌, pos}
use Rattle.gic_fixed.specs.declared.interval.Interval.{Interval}
use Rattle.gic_fixed.specs.Ends.{ends_of, zero_ends}

-- the ends of the point 0
pub ends_are : (interval : Interval) → interval.lo ≡ pos 0 → interval.hi ≡ pos 0 → ends_of interval ≡ zero_ends
ends_are interval low high = cc (low, high)
