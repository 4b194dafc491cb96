-- What the theorems say of guesses: how far they can be from any solution, and what rounded sums tell of them.
use Rattle.std.specs.Prelude.{ℕ, ◌*◌, ◌^◌, ◌≤◌, Bool, length, ℤ, pos, ◌+ℤ◌, ◌-ℤ◌, ◌*ℤ◌, ◌≤ℤ◌, unsigned_abs}
use Rattle.gic_model.specs.declared.parts.Item.{Item}
use Rattle.gic_model.specs.Network.{Network}
use Rattle.gic_model.specs.Limits.{IsWithinLimits}
use Rattle.gic_model.specs.Standing.{IsLive, standing_elements, elements_at}
use Rattle.gic_model.specs.Solution.{Solution, IsSolution}
use Rattle.gic_model.specs.Bound.{IsBoundVector}
use Rattle.gic_model.specs.Guess.{ohms_at, conductance, IsSettledWithin, IsSettledAt, HoldsResidual, least_conductance, diagonal, residual_down, residual_up}
use Rattle.gic_fixed.specs.Encloses.{Encloses}
use Rattle.gic_fixed.specs.Ends.{IsAtMostWide}

-- where guesses are settled within t grains, each live node's potential in each solution lies within v_k t grains of its guess, for each bound vector v
abbrev pub GuessesHoldPotentials : Type 0
GuessesHoldPotentials = (network : Network) (stands : Item → Bool) (volts x : ℕ → ℤ) (s : Solution) (v : ℕ → ℕ) (t k : ℕ) →
    let standing = standing_elements network stands in
    IsWithinLimits network → IsSolution standing volts s → IsBoundVector standing v →
    IsSettledWithin standing volts x t → IsLive standing k →
    Encloses (x k -ℤ pos (v k * t)) (x k +ℤ pos (v k * t)) (pos (2 ^ 36) *ℤ s.potential k) s.denominator

-- an interval in units that holds the residual, with both ends within what the rounded conductance carries, shows that the node is settled; a unit is 2^12 times what 2^-20 siemens carry at one grain
abbrev pub UnitsTellSettled : Type 0
UnitsTellSettled = (network : Network) (stands : Item → Bool) (volts x : ℕ → ℤ) (t k : ℕ) (lo hi : ℤ) →
    let standing = standing_elements network stands in
    IsWithinLimits network → HoldsResidual standing volts x k lo hi →
    2 ^ 12 * unsigned_abs lo ≤ t * least_conductance standing k →
    2 ^ 12 * unsigned_abs hi ≤ t * least_conductance standing k →
    IsSettledAt standing volts x t k

-- the residual lies between the sums of its parts rounded down and rounded up
abbrev pub RoundedResidualsHold : Type 0
RoundedResidualsHold = (network : Network) (stands : Item → Bool) (volts x : ℕ → ℤ) (k : ℕ) →
    let standing = standing_elements network stands in
    IsWithinLimits network → HoldsResidual standing volts x k (residual_down standing volts x k) (residual_up standing volts x k)

-- these sums are at most as many units apart as the node has standing elements
abbrev pub RoundedResidualsAreNarrow : Type 0
RoundedResidualsAreNarrow = (network : Network) (stands : Item → Bool) (volts x : ℕ → ℤ) (k : ℕ) →
    let standing = standing_elements network stands in
    IsWithinLimits network →
    IsAtMostWide (length (elements_at standing k)) (residual_down standing volts x k) (residual_up standing volts x k)

-- the diagonal is at least the conductance
abbrev pub DiagonalIsEnough : Type 0
DiagonalIsEnough = (network : Network) (stands : Item → Bool) (k : ℕ) →
    let standing = standing_elements network stands in
    IsWithinLimits network →
    (pos (2 ^ 20) *ℤ conductance standing k) ≤ℤ pos (ohms_at standing k * diagonal standing k)

-- and at most twice as much
abbrev pub DiagonalIsAtMostTwice : Type 0
DiagonalIsAtMostTwice = (network : Network) (stands : Item → Bool) (k : ℕ) →
    let standing = standing_elements network stands in
    IsWithinLimits network →
    pos (ohms_at standing k * diagonal standing k) ≤ℤ (pos (2 * 2 ^ 20) *ℤ conductance standing k)
