-- Ohm's law of an element, and the ends of its current's interval.
use Rattle.std.specs.Prelude.{ℕ, ◌≡◌, ◌*◌, ◌^◌, ℤ, pos, ◌+ℤ◌, ◌-ℤ◌, ◌*ℤ◌}
use Rattle.gic_fixed.specs.Rounding.{floor_div, ceil_div}
use Rattle.gic_model.specs.Standing.{value_at}
use Rattle.gic_model.specs.Sums.{Placed}

-- R I = times 10^6 drive: R in micro-ohm, the current I in nA and what drives it in nV, over one denominator
abbrev pub OhmsLaw : (times micro_ohm : ℕ) → (drive current : ℤ) → Type 0
OhmsLaw times micro_ohm drive current = pos micro_ohm *ℤ current ≡ pos (times * 1000000) *ℤ drive

-- what drives a current from one potential to another, in grains
abbrev pub drive_of : ℤ → ℤ → ℤ → ℤ
drive_of from to volts = from -ℤ to +ℤ pos (2 ^ 36) *ℤ volts

-- the current in nanoamperes that the drive in grains gives, rounded down, and rounded up
abbrev pub current_low : ℕ → ℕ → ℤ → ℤ
current_low times micro_ohm drive = floor_div (pos (times * 1000000) *ℤ drive) (pos (micro_ohm * 2 ^ 36))

abbrev pub current_high : ℕ → ℕ → ℤ → ℤ
current_high times micro_ohm drive = ceil_div (pos (times * 1000000) *ℤ drive) (pos (micro_ohm * 2 ^ 36))

-- the most that a current may be, either way, in nanoamperes: that of 2^62 nanovolts over three paths of a milliohm each
abbrev pub most_current : ℕ
most_current = 3000 * 2 ^ 62

-- an element's least current in nanoamperes over intervals from low to high at its ends, rounded down
abbrev pub least_nano : (ℕ → ℤ) → (ℕ → ℤ) → (ℕ → ℤ) → Placed → ℤ
least_nano volts low high p = current_low p.1.times p.1.micro_ohm (drive_of (low p.1.from.0) (value_at high p.1.to) (volts p.0))

-- its greatest current, rounded up
abbrev pub most_nano : (ℕ → ℤ) → (ℕ → ℤ) → (ℕ → ℤ) → Placed → ℤ
most_nano volts low high p = current_high p.1.times p.1.micro_ohm (drive_of (high p.1.from.0) (value_at low p.1.to) (volts p.0))
