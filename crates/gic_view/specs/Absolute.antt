-- The absolute interval of a signed one.
use Rattle.std.specs.Prelude.{neg_ℤ, FitsSigned}
use Rattle.std.specs.Int.{w128}
use Rattle.gic_fixed.specs.Ends.{Ends}
use Rattle.gic_fixed.specs.Rounding.{least_abs, greatest_abs}

-- the absolute interval: that of the absolute values of the numbers from the low to the high end
abbrev pub absolute_ends : Ends → Ends
absolute_ends e = record { low = least_abs e.low e.high; high = greatest_abs e.low e.high }

-- the interval has an absolute one of 128 bits: it doesn't begin at -2^127
abbrev pub HasAbsolute : Ends → Type 0
HasAbsolute e = FitsSigned w128 (neg_ℤ e.low)
