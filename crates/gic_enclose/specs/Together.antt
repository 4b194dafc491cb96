-- What is handed to a solve belongs to one network.
use Rattle.std.specs.Prelude.{ℕ, ◌≡◌, List, length, ℤ}
use Rattle.gic_model.specs.Network.{Network}
use Rattle.gic_fixed.specs.Ends.{Ends}

-- the voltages are of the network's elements; the guesses, the entries of the vector and the intervals are of its nodes
pub record BelongTogether (network : Network) (volts guesses : List ℤ) (entries : List ℕ) (potentials : List Ends) : Type 0 where
  pub volt_count : length volts ≡ length network.list
  pub guess_count : length guesses ≡ network.nodes
  pub entry_count : length entries ≡ network.nodes
  pub interval_count : length potentials ≡ network.nodes
