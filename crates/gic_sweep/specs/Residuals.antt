-- The residuals at all nodes at once, and what they show of guesses.
use Rattle.std.specs.Prelude.{ℕ, ◌≡◌, ◌≤◌, ◌+◌, ◌*◌, ◌/◌, ◌^◌, List, length, ℤ, unsigned_abs}
use Rattle.gic_model.specs.Guess.{HoldsResidual, residual_down, diagonal}
use Rattle.gic_model.specs.Sums.{Placed}
use Rattle.gic_model.specs.Voltages.{number_at}
use Rattle.gic_net.specs.Net.{NetView, standing}
use Rattle.gic_sweep.specs.Guesses.{AreCut}
use Rattle.gic_sweep.specs.ResidualEnds.{ResidualEnds}

-- at each node the ends hold the residual
abbrev pub HoldResiduals : List Placed → (ℕ → ℤ) → (ℕ → ℤ) → ResidualEnds → Type 0
HoldResiduals standing volts x ends = (k : ℕ) → HoldsResidual standing volts x k (number_at ends.low k) (number_at ends.high k)

-- t grains within which guesses are settled, and what the rounding of residuals and conductances adds to them at most: a 1048th and 5 grains
abbrev pub most_reach : ℕ → ℕ
most_reach t = t + t / 1048 + 5

-- voltages and guesses are of the net, no guess is beyond its limit, and `low` has the residual at each node, each element's part rounded down
pub record AreRoundedDown (net : NetView) (volts guesses low : List ℤ) : Type 0 where
  pub volt_count : length volts ≡ length net.network.list
  pub guess_count : length guesses ≡ net.network.nodes
  pub cut : AreCut (number_at guesses)
  pub low_count : length low ≡ net.network.nodes
  pub rounded : (k : ℕ) → number_at low k ≡ residual_down (standing net) (number_at volts) (number_at guesses) k
  pub small : (k : ℕ) → unsigned_abs (number_at low k) ≤ diagonal (standing net) k * 2 ^ 86
