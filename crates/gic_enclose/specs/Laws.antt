-- What the theorems of the potential bound say.
use Rattle.std.specs.Prelude.{ℕ, ◌*◌, ◌<◌, ◌≤◌, ◌^◌, Bool, ℤ, unsigned_abs}
use Rattle.gic_base.specs.declared.limits.TheConstants.{MOST_WALK}
use Rattle.gic_model.specs.declared.parts.Item.{Item}
use Rattle.gic_model.specs.Network.{Network}
use Rattle.gic_model.specs.Limits.{IsWithinLimits, most_wide_volts, AreVolts}
use Rattle.gic_model.specs.Standing.{IsLive, standing_elements}
use Rattle.gic_model.specs.Solution.{Solution, IsSolution}
use Rattle.gic_model.specs.Bound.{IsEarthedWithin}
use Rattle.gic_model.specs.Guess.{most_potential, IsSettled}
use Rattle.gic_enclose.specs.Drive.{DriveWithin, most_driven_potential}

-- where the network is earthed within MOST_WALK, each live node's potential is in every solution less than most_potential grains from 0
abbrev pub SolutionsAreBelow : Type 0
SolutionsAreBelow = (network : Network) (stands : Item → Bool) (volts : ℕ → ℤ) (s : Solution) (k : ℕ) →
    let standing = standing_elements network stands in
    IsWithinLimits network → IsEarthedWithin standing MOST_WALK → AreVolts volts → IsSolution standing volts s → IsLive standing k →
    2 ^ 36 * unsigned_abs (s.potential k) < most_potential * s.denominator

-- and so is each settled guess
abbrev pub SettledGuessesAreBelow : Type 0
SettledGuessesAreBelow = (network : Network) (stands : Item → Bool) (volts x : ℕ → ℤ) (k : ℕ) →
    let standing = standing_elements network stands in
    IsWithinLimits network → IsEarthedWithin standing MOST_WALK → AreVolts volts → IsSettled standing volts x → IsLive standing k →
    unsigned_abs (x k) < most_potential

-- where the voltages drive no potential far, no solution's potential at a live node is 2^95 grains from 0
abbrev pub DrivenSolutionsAreBelow : Type 0
DrivenSolutionsAreBelow = (network : Network) (stands : Item → Bool) (volts : ℕ → ℤ) (s : Solution) (k : ℕ) →
    let standing = standing_elements network stands in
    IsWithinLimits network → IsEarthedWithin standing MOST_WALK → DriveWithin standing volts → IsSolution standing volts s → IsLive standing k →
    2 ^ 36 * unsigned_abs (s.potential k) < most_driven_potential * s.denominator

-- the voltages of a case drive none far
abbrev pub CaseVoltsDriveWithin : Type 0
CaseVoltsDriveWithin = (network : Network) (stands : Item → Bool) (volts : ℕ → ℤ) → AreVolts volts → DriveWithin (standing_elements network stands) volts

-- nor do voltages for which some solution has no live node's potential beyond 2^58 nanovolts
abbrev pub SolvedVoltsDriveWithin : Type 0
SolvedVoltsDriveWithin = (network : Network) (stands : Item → Bool) (volts : ℕ → ℤ) (s : Solution) →
    let standing = standing_elements network stands in
    IsWithinLimits network → IsSolution standing volts s →
    ((k : ℕ) → IsLive standing k → unsigned_abs (s.potential k) ≤ most_wide_volts * s.denominator) → DriveWithin standing volts
