-- An interval as its two ends, and how wide it is.
use Rattle.std.specs.Prelude.{ℕ, ℤ, pos, ◌-ℤ◌, ◌≤ℤ◌}
use Rattle.gic_fixed.specs.declared.interval.Interval.{Interval}

-- the two ends of an interval
pub record Ends : Type 0 where
  pub low : ℤ
  pub high : ℤ

-- those of this interval
abbrev pub ends_of : Interval → Ends
ends_of interval = record { low = interval.lo; high = interval.hi }

-- those of the point 0
abbrev pub zero_ends : Ends
zero_ends = record { low = pos 0; high = pos 0 }

-- the interval from lo to hi is at most this wide
abbrev pub IsAtMostWide : ℕ → ℤ → ℤ → Type 0
IsAtMostWide width lo hi = (hi -ℤ lo) ≤ℤ pos width
