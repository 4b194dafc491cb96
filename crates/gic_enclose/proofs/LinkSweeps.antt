-- Sweeps over rows, and what is said of two successive lists of guesses.
use Rattle.std.proofs.Common.{◌≡◌, ℕ, ◌+◌, ◌*◌, ◌^◌, ◌≤◌, List, length, Option, Some, None, ℤ, pos, ◌+ℤ◌, ◌-ℤ◌, ◌*ℤ◌, All, unsigned_abs}
use Rattle.gic_model.specs.Limits.{most_volts}
use Rattle.gic_model.specs.Guess.{cut}
use Rattle.gic_enclose.proofs.Links.{Link, IsLiveRow, denominator, conductance, residual, diagonal, guess_at, IsLinkWithin}

-- t is within 2 + 4096 * h / d of the guess less its residual over the diagonal d, where h is the number of links
abbrev pub IsRowTarget : List Link → (ℕ → ℤ) → ℕ → ℤ → Type 0
IsRowTarget row xs k t = unsigned_abs ((pos (diagonal row * denominator row) *ℤ (t -ℤ guess_at xs (Some k))) +ℤ residual row xs k) ≤ denominator row * (2 * diagonal row + 4096 * length row)

-- what a sweep makes of the guesses xs
pub record IsRowSweep (rows : ℕ → List Link) (xs ys : ℕ → ℤ) : Type 0 where
  pub live : (k : ℕ) → IsLiveRow rows k → (t : ℤ) × IsRowTarget (rows k) xs k t × (guess_at ys (Some k) ≡ cut t)
  pub dead : (k : ℕ) → length (rows k) ≡ 0 → guess_at ys (Some k) ≡ guess_at xs (Some k)

-- how far two successive lists of guesses are apart, where x falls from sweep to sweep
abbrev pub AreClose : (ℕ → ℕ) → ℕ → (ℕ → ℤ) → (ℕ → ℤ) → Type 0
AreClose vs x xs ys = (k : ℕ) → 8192 * unsigned_abs (guess_at ys (Some k) -ℤ guess_at xs (Some k)) ≤ (24 * 8192 + x) * vs k

-- the greatest voltage of an element, in grains
abbrev pub most_push : ℕ
most_push = most_volts * 2 ^ 36

-- the far end is earth or a live node
abbrev pub IsFarLive : (ℕ → List Link) → Option ℕ → Type 0
IsFarLive rows None = Unit {0}
IsFarLive rows (Some i) = IsLiveRow rows i

-- rows of a network within the limits, whose links end at live nodes
pub record AreRowsWithin (rows : ℕ → List Link) : Type 0 where
  pub links : ((j : ℕ) → All IsLinkWithin (rows j))
  pub ends : (j : ℕ) → All (λ l. IsFarLive rows l.far) (rows j)

-- guesses in grains, none of them beyond the limit, over which no live node's residual is more than what its row's conductance carries at the greatest voltage
pub record AreRoughRows (rows : ℕ → List Link) (ps : ℕ → ℤ) : Type 0 where
  pub within : (k : ℕ) → IsLiveRow rows k → unsigned_abs (ps k) ≤ 2 ^ 94
  pub rough : (k : ℕ) → IsLiveRow rows k → unsigned_abs (residual (rows k) ps k) ≤ most_push * conductance (rows k)

-- at each live node the residual is at most what the row's conductance carries at 2 ^ 18 grains
abbrev pub AreRowsSettled : (ℕ → List Link) → (ℕ → ℤ) → Type 0
AreRowsSettled rows xs = (k : ℕ) → IsLiveRow rows k → unsigned_abs (residual (rows k) xs k) ≤ 2 ^ 18 * conductance (rows k)

-- how far the guesses xs are from rough ones, where x falls from sweep to sweep
abbrev pub AreWithin : (ℕ → List Link) → (ℕ → ℕ) → (ps : ℕ → ℤ) → ℕ → (ℕ → ℤ) → Type 0
AreWithin rows vs ps x xs = (k : ℕ) → IsLiveRow rows k → 8192 * unsigned_abs (guess_at xs (Some k) -ℤ guess_at ps (Some k)) ≤ (2 * (most_push + 6) * 8192 + x) * vs k
