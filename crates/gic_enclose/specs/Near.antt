-- How near two successive lists of guesses are, and how that falls from sweep to sweep until the guesses are settled.
use Rattle.std.specs.Prelude.{ℕ, ◌+◌, ◌-◌, ◌*◌, ◌^◌, ◌≤◌, Bool, List, ℤ, ◌-ℤ◌, unsigned_abs}
use Rattle.gic_base.specs.declared.limits.TheConstants.{MOST_WALK}
use Rattle.gic_enclose.specs.declared.phases.TheConstants.{PHASE, PHASES}
use Rattle.gic_model.specs.declared.parts.Item.{Item}
use Rattle.gic_model.specs.Network.{Network}
use Rattle.gic_model.specs.Limits.{IsWithinLimits, most_volts}
use Rattle.gic_model.specs.Standing.{IsLive, standing_elements}
use Rattle.gic_model.specs.Guess.{IsSettled}
use Rattle.gic_model.specs.Sums.{Placed}
use Rattle.gic_sweep.specs.Guesses.{AreCut}
use Rattle.gic_sweep.specs.Sweep.{IsSweep}
use Rattle.gic_bound.specs.Entries.{IsBoundWithin}
use Rattle.gic_enclose.specs.Drive.{in_grains, AreRoughPotentials}

-- the greatest voltage in grains of 2^-36 nanovolt
abbrev pub most_grains : ℕ
most_grains = most_volts * 2 ^ 36

-- a sweep over the guesses x makes the guesses y: for each unit of a node's entry in v, the two are at most 24 grains and a PHASE-th of `left` apart, and x is at most twice the greatest voltage, 12 grains and a PHASE-th of `left` from these rough potentials in nanovolts
pub record AreNearGuesses (standing : List Placed) (volts rough : ℕ → ℤ) (v : ℕ → ℕ) (left : ℕ) (x y : ℕ → ℤ) : Type 0 where
  pub sweep : IsSweep standing volts x y
  pub close : (k : ℕ) → PHASE * unsigned_abs (y k -ℤ x k) ≤ (24 * PHASE + left) * v k
  pub within : (k : ℕ) → IsLive standing k → PHASE * unsigned_abs (x k -ℤ in_grains rough k) ≤ (2 * (most_grains + 6) * PHASE + left) * v k

-- from any guesses the first sweep is near with a phase for each of the halvings left, whatever bound vector within MOST_WALK
abbrev pub FirstSweepIsNear : Type 0
FirstSweepIsNear = (network : Network) (stands : Item → Bool) (volts rough x y : ℕ → ℤ) (v : ℕ → ℕ) →
    let standing = standing_elements network stands in
    IsWithinLimits network → IsBoundWithin standing MOST_WALK v → AreRoughPotentials standing volts rough → AreCut x → IsSweep standing volts x y →
    AreNearGuesses standing volts rough v (PHASE * 2 ^ PHASES) x y

-- one more sweep takes off whatever goes PHASE times into what is left
abbrev pub SweepBringsNearer : Type 0
SweepBringsNearer = (network : Network) (stands : Item → Bool) (volts rough x y z : ℕ → ℤ) (v : ℕ → ℕ) (left off : ℕ) →
    let standing = standing_elements network stands in
    IsWithinLimits network → IsBoundWithin standing MOST_WALK v → AreRoughPotentials standing volts rough → PHASE * off ≤ left →
    AreNearGuesses standing volts rough v left x y → IsSweep standing volts y z → AreNearGuesses standing volts rough v (left - off) y z

-- with PHASE left the guesses are settled
abbrev pub NearIsSettled : Type 0
NearIsSettled = (network : Network) (stands : Item → Bool) (volts rough x y : ℕ → ℤ) (v : ℕ → ℕ) →
    let standing = standing_elements network stands in
    IsWithinLimits network → IsBoundWithin standing MOST_WALK v → AreRoughPotentials standing volts rough →
    AreNearGuesses standing volts rough v PHASE x y → IsSettled standing volts y

-- so whatever the first guesses are, one sweep and all phases leave settled ones
abbrev pub SweepsSettle : Type 0
SweepsSettle = (network : Network) (stands : Item → Bool) (volts rough : ℕ → ℤ) (v : ℕ → ℕ) (guesses : ℕ → ℕ → ℤ) →
    let standing = standing_elements network stands in
    IsWithinLimits network → IsBoundWithin standing MOST_WALK v → AreRoughPotentials standing volts rough → AreCut (guesses 0) →
    ((n : ℕ) → IsSweep standing volts (guesses n) (guesses (n + 1))) →
    IsSettled standing volts (guesses (1 + PHASES * PHASE))
