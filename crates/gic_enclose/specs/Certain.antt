-- What intervals say of every solution, and how narrow they are.
use Rattle.std.specs.Prelude.{ℕ, ◌≡◌, ◌^◌, List, IsFalse, ℤ, pos, ◌*ℤ◌}
use Rattle.gic_model.specs.Standing.{IsLive, is_live}
use Rattle.gic_model.specs.Solution.{Solution, IsSolution}
use Rattle.gic_fixed.specs.Encloses.{Encloses}
use Rattle.gic_model.specs.Sums.{Placed}
use Rattle.gic_enclose.specs.Ends.{potential_ends}
use Rattle.gic_fixed.specs.Ends.{Ends, zero_ends, IsAtMostWide}

-- the interval holds the potential of the node k in every solution, where k is live, and is the point 0 where it is dead
pub record IsCertainAt (standing : List Placed) (volts : ℕ → ℤ) (k : ℕ) (ends : Ends) : Type 0 where
  pub live : IsLive standing k → (s : Solution) → IsSolution standing volts s → Encloses ends.low ends.high (pos (2 ^ 36) *ℤ s.potential k) s.denominator
  pub dead : IsFalse (is_live standing k) → ends ≡ zero_ends

-- so does each node's interval
abbrev pub AreCertain : List Placed → (ℕ → ℤ) → List Ends → Type 0
AreCertain standing volts potentials = (k : ℕ) → IsCertainAt standing volts k (potential_ends potentials k)

-- at most 2^43 grains wide
abbrev pub IsNarrow : Ends → Type 0
IsNarrow ends = IsAtMostWide (2 ^ 43) ends.low ends.high

-- at most 2^32 grains wide, a sixteenth of a nanovolt
abbrev pub IsTight : Ends → Type 0
IsTight ends = IsAtMostWide (2 ^ 32) ends.low ends.high

-- so is the interval of each node
abbrev pub AreTight : List Ends → Type 0
AreTight potentials = (k : ℕ) → IsTight (potential_ends potentials k)
