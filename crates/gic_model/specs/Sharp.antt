-- How wide the intervals are that potentials give. Each node has an interval from low to high, in grains of 2^-36 nanovolt.
use Rattle.std.specs.Prelude.{ℕ, ◌*◌, ◌^◌, List, ℤ, pos, ◌+ℤ◌, ◌-ℤ◌, ◌*ℤ◌}
use Rattle.gic_fixed.specs.Ends.{IsAtMostWide}
use Rattle.gic_fixed.specs.Rounding.{floor_div, ceil_div}
use Rattle.std.specs.List.{All}
use Rattle.gic_model.specs.Standing.{IsLive, value_at}
use Rattle.gic_model.specs.Sums.{Placed}

-- grains in a millivolt
abbrev pub millivolt : ℕ
millivolt = 1000000 * 2 ^ 36

-- the element's least current in milliamperes by Ohm's law over the ends of the intervals, rounded down
abbrev pub least_current : (ℕ → ℤ) → (ℕ → ℤ) → (ℕ → ℤ) → Placed → ℤ
least_current volts low high p =
    floor_div (pos p.1.times *ℤ (low p.1.from.0 -ℤ value_at high p.1.to +ℤ pos (2 ^ 36) *ℤ volts p.0)) (pos (p.1.micro_ohm * 2 ^ 36))

-- its greatest current in milliamperes, rounded up
abbrev pub most_current : (ℕ → ℤ) → (ℕ → ℤ) → (ℕ → ℤ) → Placed → ℤ
most_current volts low high p =
    ceil_div (pos p.1.times *ℤ (high p.1.from.0 -ℤ value_at low p.1.to +ℤ pos (2 ^ 36) *ℤ volts p.0)) (pos (p.1.micro_ohm * 2 ^ 36))

-- no outward interval of a live node in millivolts, or of a standing element in milliamperes, is wider than this
pub record IsSharp (standing : List Placed) (volts low high : ℕ → ℤ) (width : ℕ) : Type 0 where
  pub nodes : (k : ℕ) → IsLive standing k → IsAtMostWide width (floor_div (low k) (pos millivolt)) (ceil_div (high k) (pos millivolt))
  pub elements : All (λ p. IsAtMostWide width (least_current volts low high p) (most_current volts low high p)) standing
