-- What a sweep makes of guesses.
use Rattle.std.specs.Prelude.{ℕ, ◌≡◌, ◌≤◌, ◌+◌, ◌*◌, ◌^◌, List, length, IsFalse, ℤ, pos, ◌+ℤ◌, ◌-ℤ◌, ◌*ℤ◌, unsigned_abs}
use Rattle.gic_model.specs.Standing.{IsLive, is_live, elements_at}
use Rattle.gic_model.specs.Guess.{cut, ohms_at, residual, diagonal}
use Rattle.gic_model.specs.Sums.{Placed}

-- where a sweep may move the guess at the node k: t is within 2 + 4096 h / d grains of the old guess less its residual over the diagonal d, where h is the number of standing elements at k (2^-44 nanoampere over 2^-20 siemens are 4096 grains)
abbrev pub IsTarget : List Placed → (ℕ → ℤ) → (ℕ → ℤ) → ℕ → ℤ → Type 0
IsTarget standing volts x k t =
    unsigned_abs ((pos (diagonal standing k * ohms_at standing k) *ℤ (t -ℤ x k)) +ℤ (pos (2 ^ 20) *ℤ residual standing volts x k))
    ≤ ohms_at standing k * (2 * diagonal standing k + 4096 * length (elements_at standing k))

-- a sweep over the guesses x makes z of the guess at the node k: where it may move to, cut, at a live node, and the old guess at a dead one
pub record IsSweptTo (standing : List Placed) (volts x : ℕ → ℤ) (k : ℕ) (z : ℤ) : Type 0 where
  pub live : IsLive standing k → (t : ℤ) × IsTarget standing volts x k t × (z ≡ cut t)
  pub dead : IsFalse (is_live standing k) → z ≡ x k

-- a sweep over the guesses x makes the guesses y
abbrev pub IsSweep : List Placed → (ℕ → ℤ) → (ℕ → ℤ) → (ℕ → ℤ) → Type 0
IsSweep standing volts x y = (k : ℕ) → IsSweptTo standing volts x k (y k)
