-- The certificate of guesses and of a bound vector.
use Rattle.std.specs.Prelude.{ℕ, ◌≡◌, ◌*◌, List, ℤ, slice_index}
use Rattle.gic_model.specs.Standing.{IsLive}
use Rattle.gic_model.specs.Voltages.{number_at}
use Rattle.gic_net.specs.Net.{NetView, standing}
use Rattle.gic_cert.specs.Step.{checked_step}
use Rattle.gic_cert.specs.Written.{Certificate, entry_of, guess_of, radius_of}

-- its entries are those of this vector, its guesses at live nodes these, and each radius is the entry times the checked step
pub record IsMadeOf (net : NetView) (volts guesses : List ℤ) (vector : List ℕ) (c : Certificate) : Type 0 where
  pub entry : (k : ℕ) → entry_of c k ≡ slice_index vector k
  pub guess : (k : ℕ) → IsLive (standing net) k → guess_of c k ≡ number_at guesses k
  pub radius : (k : ℕ) → radius_of c k ≡ entry_of c k * checked_step (standing net) (number_at volts) (guess_of c) net.network.nodes
