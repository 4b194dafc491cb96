-- Guesses of the potentials in grains of 2^-36 nanovolt, and how far Kirchhoff's law is missed over them.
use Rattle.std.specs.Prelude.{ℕ, ◌*◌, ◌^◌, ◌≤◌, List, ℤ, pos, neg_ℤ, ◌+ℤ◌, ◌-ℤ◌, ◌*ℤ◌, ◌≤ℤ◌, unsigned_abs}
use Rattle.std.specs.List.{sum_by}
use Rattle.std.specs.Int.{int_min, int_max}
use Rattle.gic_model.specs.Standing.{IsLive, elements_at, value_at, leaving}
use Rattle.gic_model.specs.Sums.{Placed, sum_of}
use Rattle.gic_model.specs.Ohms.{product_of_ohms, sum_over_ohms}
use Rattle.gic_model.specs.Conductance.{conductance_down, conductance_up}
use Rattle.gic_fixed.specs.Rounding.{floor_div, ceil_div}

-- no guess is beyond this in grains, either way; the sweeps and the corrections cut it so
abbrev pub most_guess : ℕ
most_guess = 2 ^ 96

-- a guess in grains, cut to this
abbrev pub cut : ℤ → ℤ
cut z = int_max (neg_ℤ (pos most_guess)) (int_min z (pos most_guess))

-- no potential is beyond this in grains, either way, nor is a settled guess, where a network is earthed within `MOST_WALK`
abbrev pub most_potential : ℕ
most_potential = 2 ^ 94

-- the product of the resistances of the standing elements at the node k
abbrev pub ohms_at : List Placed → ℕ → ℕ
ohms_at standing k = product_of_ohms (elements_at standing k)

-- the conductance at the node k in siemens, as a numerator over `ohms_at`
abbrev pub conductance : List Placed → ℕ → ℤ
conductance standing k = sum_over_ohms (λ p. pos (p.1.times * 1000000)) (elements_at standing k)

-- what Ohm's law gives over the guesses x, times R, in 2^-36 nanoampere
abbrev pub guessed_current : (ℕ → ℤ) → (ℕ → ℤ) → Placed → ℤ
guessed_current volts x p =
    pos (p.1.times * 1000000) *ℤ (x p.1.from.0 -ℤ value_at x p.1.to +ℤ pos (2 ^ 36) *ℤ volts p.0)

-- the residual of the guesses x at the node k, what leaves it less what enters it, in 2^-36 nanoampere, as a numerator over `ohms_at`
abbrev pub residual : List Placed → (ℕ → ℤ) → (ℕ → ℤ) → ℕ → ℤ
residual standing volts x k = sum_over_ohms (λ p. leaving k p.1 (guessed_current volts x p)) (elements_at standing k)

-- at the node k the residual is at most what the conductance carries at t grains
abbrev pub IsSettledAt : List Placed → (ℕ → ℤ) → (ℕ → ℤ) → ℕ → ℕ → Type 0
IsSettledAt standing volts x t k = unsigned_abs (residual standing volts x k) ≤ t * unsigned_abs (conductance standing k)

-- the same at each live node
abbrev pub IsSettledWithin : List Placed → (ℕ → ℤ) → (ℕ → ℤ) → ℕ → Type 0
IsSettledWithin standing volts x t = (k : ℕ) → IsLive standing k → IsSettledAt standing volts x t k

-- guesses are settled within 2^18 grains
abbrev pub IsSettled : List Placed → (ℕ → ℤ) → (ℕ → ℤ) → Type 0
IsSettled standing volts x = IsSettledWithin standing volts x (2 ^ 18)

-- the interval [lo, hi] in units of 2^-44 nanoampere holds the residual at the node k
pub record HoldsResidual (standing : List Placed) (volts x : ℕ → ℤ) (k : ℕ) (lo hi : ℤ) : Type 0 where
  pub above_lo : (lo *ℤ pos (ohms_at standing k)) ≤ℤ (pos 256 *ℤ residual standing volts x k)
  pub below_hi : (pos 256 *ℤ residual standing volts x k) ≤ℤ (hi *ℤ pos (ohms_at standing k))

-- the conductance at the node k in units of 2^-20 siemens, each element's part rounded down
abbrev pub least_conductance : List Placed → ℕ → ℕ
least_conductance standing k = sum_by (λ p. conductance_down p.1) (elements_at standing k)

-- the same with each part rounded up
abbrev pub diagonal : List Placed → ℕ → ℕ
diagonal standing k = sum_by (λ p. conductance_up p.1) (elements_at standing k)

-- one element's part of the residual in units of 2^-44 nanoampere, times R
abbrev pub part_times_ohms : (ℕ → ℤ) → (ℕ → ℤ) → ℕ → Placed → ℤ
part_times_ohms volts x k p = pos 256 *ℤ leaving k p.1 (guessed_current volts x p)

-- the residual at the node k in units of 2^-44 nanoampere, each element's part rounded down
abbrev pub residual_down : List Placed → (ℕ → ℤ) → (ℕ → ℤ) → ℕ → ℤ
residual_down standing volts x k = sum_of (λ p. floor_div (part_times_ohms volts x k p) (pos p.1.micro_ohm)) (elements_at standing k)

-- the same with each part rounded up
abbrev pub residual_up : List Placed → (ℕ → ℤ) → (ℕ → ℤ) → ℕ → ℤ
residual_up standing volts x k = sum_of (λ p. ceil_div (part_times_ohms volts x k p) (pos p.1.micro_ohm)) (elements_at standing k)
