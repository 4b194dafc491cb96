-- How wide an interval in nanoamperes is in milliamperes.
use Rattle.std.specs.Prelude.{ℕ, ℤ, pos}
use Rattle.gic_fixed.specs.Ends.{IsAtMostWide}
use Rattle.gic_fixed.specs.Rounding.{floor_div, ceil_div}

-- rounded outward to milliamperes, the interval is at most this wide
abbrev pub IsMilliAtMostWide : ℕ → ℤ → ℤ → Type 0
IsMilliAtMostWide width lo hi = IsAtMostWide width (floor_div lo (pos 1000000)) (ceil_div hi (pos 1000000))
