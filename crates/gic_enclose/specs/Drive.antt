-- Voltages that drive no potential far, so that a network can be solved for them.
use Rattle.std.specs.Prelude.{ℕ, ◌*◌, ◌^◌, ◌≤◌, List, ℤ, pos, ◌*ℤ◌, unsigned_abs}
use Rattle.gic_base.specs.declared.limits.TheConstants.{MOST_WALK}
use Rattle.gic_model.specs.Guess.{IsSettledWithin}
use Rattle.gic_model.specs.Limits.{most_volts, most_wide_volts}
use Rattle.gic_model.specs.Standing.{IsLive}
use Rattle.gic_model.specs.Sums.{Placed}
use Rattle.gic_bound.specs.Entries.{IsBoundWithin}

-- potentials in nanovolts, in grains
abbrev pub in_grains : (ℕ → ℤ) → ℕ → ℤ
in_grains potential k = pos (2 ^ 36) *ℤ potential k

-- rough potentials in nanovolts: none of a live node is beyond 2^58, either way, and over them Kirchhoff's law is missed by at most what the conductance carries at the greatest voltage of a case
pub record AreRoughPotentials (standing : List Placed) (volts potential : ℕ → ℤ) : Type 0 where
  pub within : (k : ℕ) → IsLive standing k → unsigned_abs (potential k) ≤ most_wide_volts
  pub rough : IsSettledWithin standing volts (in_grains potential) (2 ^ 36 * most_volts)

-- the voltages have rough potentials
pub record DriveWithin (standing : List Placed) (volts : ℕ → ℤ) : Type 0 where
  pub potential : ℕ → ℤ
  pub are_rough : AreRoughPotentials standing volts potential

-- then no solution has a live node's potential this many grains from 0, either way
abbrev pub most_driven_potential : ℕ
most_driven_potential = 2 ^ 95

-- the network can be solved for the voltages: they drive no potential far, and v is a bound vector within `MOST_WALK`
pub record CanEnclose (standing : List Placed) (volts : ℕ → ℤ) (v : ℕ → ℕ) : Type 0 where
  pub driven : DriveWithin standing volts
  pub bound : IsBoundWithin standing MOST_WALK v
