-- What a certificate is made of.
use Rattle.std.specs.Prelude.{ℕ, ◌≡◌, ◌≤◌, List, length, ℤ, slice_index, unsigned_abs}
use Rattle.gic_base.specs.declared.limits.TheConstants.{MOST_WALK}
use Rattle.gic_model.specs.Guess.{IsSettled}
use Rattle.gic_model.specs.Standing.{IsLive}
use Rattle.gic_model.specs.Voltages.{number_at}
use Rattle.gic_net.specs.Net.{NetView, standing}
use Rattle.gic_bound.specs.Entries.{IsBoundWithin}
use Rattle.gic_cert.specs.declared.limits.TheConstants.{MOST_WRITTEN_GUESS}

-- voltages of the net's elements, guesses of its nodes that are settled in them and small enough to be written at live nodes, and a bound vector of its nodes without an entry above `MOST_WALK`
pub record IsCertifiable (net : NetView) (volts guesses : List ℤ) (entries : List ℕ) : Type 0 where
  pub volt_count : length volts ≡ length net.network.list
  pub guess_count : length guesses ≡ net.network.nodes
  pub entry_count : length entries ≡ net.network.nodes
  pub bound : IsBoundWithin (standing net) MOST_WALK (slice_index entries)
  pub settled : IsSettled (standing net) (number_at volts) (number_at guesses)
  pub written : (k : ℕ) → IsLive (standing net) k → unsigned_abs (number_at guesses k) ≤ MOST_WRITTEN_GUESS
