-- Sums at all nodes, as far as a pass over the elements has come.
use Rattle.std.specs.Prelude.{ℕ, ◌≡◌, ◌≤◌, ◌+◌, ◌*◌, ◌^◌, List, length, drop, ℤ, pos, ◌+ℤ◌, unsigned_abs, if◌then◌else◌, ◌==◌}
use Rattle.std.specs.List.{filter, enumerate_from, sum_by}
use Rattle.gic_fixed.specs.Rounding.{floor_div, ceil_div}
use Rattle.gic_model.specs.declared.parts.Element.{Element}
use Rattle.gic_model.specs.Conductance.{conductance_up}
use Rattle.gic_model.specs.Network.{is_node}
use Rattle.gic_model.specs.Standing.{elements_at}
use Rattle.gic_model.specs.Guess.{part_times_ohms}
use Rattle.gic_model.specs.Sums.{Placed, sum_of}
use Rattle.gic_model.specs.Voltages.{number_at}
use Rattle.gic_net.specs.Net.{NetView, stands}
use Rattle.gic_sweep.specs.Guesses.{AreCut}

-- one element's part of the residual at the node k in units of 2^-44 nanoampere, rounded down
abbrev pub part_down : (ℕ → ℤ) → (ℕ → ℤ) → ℕ → Placed → ℤ
part_down volts x k p = floor_div (part_times_ohms volts x k p) (pos p.1.micro_ohm)

-- the same rounded up
abbrev pub part_up : (ℕ → ℤ) → (ℕ → ℤ) → ℕ → Placed → ℤ
part_up volts x k p = ceil_div (part_times_ohms volts x k p) (pos p.1.micro_ohm)

-- what an element adds at the node k, where it adds `out` at its `from` and `back` at its `to`
abbrev pub share_at : Element → ℕ → ℤ → ℤ → ℤ
share_at e k out back = if e.from.0 == k then out else (if is_node e.to k then back else pos 0)

-- the standing elements at the node k from this place of the list on
abbrev pub left_at : NetView → ℕ → ℕ → List Placed
left_at net place k = elements_at (filter (λ p. stands net p.1.item) (enumerate_from place (drop place net.network.list))) k

-- the sums `new` are the sums `old` with the part of the element at this place, if it stands, at each of its ends
pub record IsCarriedOn (net : NetView) (part : ℕ → Placed → ℤ) (place : ℕ) (old new : List ℤ) : Type 0 where
  pub count : length new ≡ length old
  pub sums : (k : ℕ) → (number_at new k +ℤ sum_of (part k) (left_at net (place + 1) k)) ≡ (number_at old k +ℤ sum_of (part k) (left_at net place k))
  pub small : (k : ℕ) →
      unsigned_abs (number_at new k) + sum_by (λ p. conductance_up p.1) (left_at net (place + 1) k) * 2 ^ 86 ≤ unsigned_abs (number_at old k) + sum_by (λ p. conductance_up p.1) (left_at net place k) * 2 ^ 86

-- voltages are of the net's elements and guesses of its nodes, and no guess is beyond its limit
pub record AreOfNet (net : NetView) (volts guesses : List ℤ) : Type 0 where
  pub volt_count : length volts ≡ length net.network.list
  pub guess_count : length guesses ≡ net.network.nodes
  pub cut : AreCut (number_at guesses)
