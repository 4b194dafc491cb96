-- What the theorems of certificates say.
use Rattle.std.specs.Prelude.{ℕ, ◌≡◌, ◌^◌, ◌≤◌, Bool, ℤ, pos, ◌+ℤ◌, ◌-ℤ◌, ◌*ℤ◌}
use Rattle.gic_fixed.specs.Encloses.{Encloses}
use Rattle.gic_model.specs.declared.parts.Item.{Item}
use Rattle.gic_model.specs.Network.{Network}
use Rattle.gic_model.specs.Limits.{IsWithinLimits}
use Rattle.gic_model.specs.Standing.{IsLive, standing_elements}
use Rattle.gic_model.specs.Solution.{Solution, IsSolution}
use Rattle.gic_model.specs.Guess.{IsSettled}
use Rattle.gic_net.specs.Net.{NetView, standing}
use Rattle.gic_sweep.specs.Residuals.{most_reach}
use Rattle.gic_cert.specs.Step.{most_residual, checked_step}
use Rattle.gic_cert.specs.Written.{Certificate, guess_of, radius_of}
use Rattle.gic_cert.specs.Passing.{IsPassing}

-- where a certificate passes, each live node's potential in each solution lies within the radius of the guess, whoever made the certificate
abbrev pub PassingHoldsPotentials : Type 0
PassingHoldsPotentials = (network : Network) (stands : Item → Bool) (volts : ℕ → ℤ) (c : Certificate) (s : Solution) (k : ℕ) →
    let standing = standing_elements network stands in
    IsWithinLimits network → IsPassing network.nodes standing volts c → IsSolution standing volts s → IsLive standing k →
    Encloses (guess_of c k -ℤ pos (radius_of c k)) (guess_of c k +ℤ pos (radius_of c k)) (pos (2 ^ 36) *ℤ s.potential k) s.denominator

-- where guesses are settled, the checked step is at most `most_reach` of 2^18 grains: 2^18, a 1048th of it and 5
abbrev pub SettledStepsAreSmall : Type 0
SettledStepsAreSmall = (net : NetView) (volts x : ℕ → ℤ) → IsWithinLimits net.network → IsSettled (standing net) volts x →
    checked_step (standing net) volts x net.network.nodes ≤ most_reach (2 ^ 18)

-- and no rounded residual at a live node is above 2^47
abbrev pub SettledResidualsAreSmall : Type 0
SettledResidualsAreSmall = (net : NetView) (volts x : ℕ → ℤ) (k : ℕ) → IsWithinLimits net.network → IsSettled (standing net) volts x → IsLive (standing net) k →
    most_residual (standing net) volts x k ≤ 2 ^ 47

-- guesses at dead nodes don't matter to whether guesses are settled
abbrev pub LiveGuessesAreEnough : Type 0
LiveGuessesAreEnough = (net : NetView) (volts x y : ℕ → ℤ) → ((k : ℕ) → IsLive (standing net) k → x k ≡ y k) →
    IsSettled (standing net) volts x → IsSettled (standing net) volts y
