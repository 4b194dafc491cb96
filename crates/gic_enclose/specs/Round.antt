-- The interval round a guess.
use Rattle.std.specs.Prelude.{ℕ, ◌≡◌, ◌*◌, List, IsFalse, ℤ, pos, ◌+ℤ◌, ◌-ℤ◌}
use Rattle.gic_fixed.specs.Ends.{Ends, zero_ends}
use Rattle.gic_model.specs.Guess.{cut}
use Rattle.gic_model.specs.Standing.{IsLive, is_live}
use Rattle.gic_model.specs.Sums.{Placed}

-- at a live node k the ends are the guess less and plus the reach for each unit of the entry in v, both cut to the limit; at a dead one they are 0
pub record IsRoundGuess (standing : List Placed) (x : ℕ → ℤ) (v : ℕ → ℕ) (reach k : ℕ) (ends : Ends) : Type 0 where
  pub low : IsLive standing k → ends.low ≡ cut (x k -ℤ pos (v k * reach))
  pub high : IsLive standing k → ends.high ≡ cut (x k +ℤ pos (v k * reach))
  pub dead : IsFalse (is_live standing k) → ends ≡ zero_ends
