-- Guesses of the potentials, in grains, by the places of the nodes.
use Rattle.std.specs.Prelude.{ℕ, ◌≡◌, ◌≤◌, List, length, ℤ, unsigned_abs}
use Rattle.gic_model.specs.Guess.{most_guess}

-- no guess is beyond the limit, either way
abbrev pub AreCut : (ℕ → ℤ) → Type 0
AreCut x = (k : ℕ) → unsigned_abs (x k) ≤ most_guess

-- a solver has a workspace for as many nodes as there are guesses, and a rough solver for as many
pub record IsSpaceForGuesses (guesses : List ℤ) (workspace rough : ℕ) : Type 0 where
  pub space : workspace ≡ length guesses
  pub rough_solver : rough ≡ length guesses
