-- Intervals of potentials, in grains, that hold those of solutions.
use Rattle.std.specs.Prelude.{◌≡◌, ℕ, ◌^◌, List, length, ℤ, pos, ◌*ℤ◌}
use Rattle.gic_fixed.specs.Encloses.{Encloses}
use Rattle.gic_model.specs.Network.{Network}
use Rattle.gic_model.specs.Standing.{IsLive}
use Rattle.gic_model.specs.Solution.{Solution, IsSolution}
use Rattle.gic_model.specs.Sums.{Placed}
use Rattle.gic_enclose.specs.Ends.{low_at, high_at}
use Rattle.gic_fixed.specs.Ends.{Ends}

-- there is a voltage for each element of the network, and an interval for each of its nodes
pub record AreOfNetwork (network : Network) (volts : List ℤ) (potentials : List Ends) : Type 0 where
  pub a_volt_each : length volts ≡ length network.list
  pub a_potential_each : length potentials ≡ network.nodes

-- the interval at the node k holds its potential in this solution
abbrev pub HoldsAt : List Ends → Solution → ℕ → Type 0
HoldsAt potentials s k = Encloses (low_at potentials k) (high_at potentials k) (pos (2 ^ 36) *ℤ s.potential k) s.denominator

-- so does that of each live node
abbrev pub HoldsSolution : List Placed → List Ends → Solution → Type 0
HoldsSolution standing potentials s = (k : ℕ) → IsLive standing k → HoldsAt potentials s k

-- and in every solution
abbrev pub HoldsSolutions : List Placed → (ℕ → ℤ) → List Ends → Type 0
HoldsSolutions standing volts potentials = (s : Solution) → IsSolution standing volts s → HoldsSolution standing potentials s
