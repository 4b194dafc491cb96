-- Solutions of a network whose grounds may have any resistance of their ranges, whole or not.
use Rattle.std.specs.Prelude.{ℕ, ◌≡◌, ◌<◌, ◌≤◌, ◌*◌, ◌⊎◌, ◌↔◌, List, IsTrue, IsFalse, ℤ, pos, ◌*ℤ◌, ◌≤ℤ◌}
use Rattle.std.specs.List.{All}
use Rattle.gic_model.specs.Solution.{Solution, IsOhm, IsKirchhoff}
use Rattle.gic_model.specs.Standing.{IsLive, is_standing}
use Rattle.gic_model.specs.Sums.{Placed}
use Rattle.gic_varied.specs.Grounds.{is_ground}
use Rattle.gic_varied.specs.Ranges.{Range, Ranges}

-- Ohm's law of some resistance of the range: the drive lies between the least and the greatest resistance times the current
abbrev pub IsOhmWithin : Range → (drive current : ℤ) → Type 0
IsOhmWithin range drive current =
    ((pos 0 ≤ℤ current) × ((pos range.least *ℤ current) ≤ℤ drive) × (drive ≤ℤ (pos range.most *ℤ current))) ⊎
    ((current ≤ℤ pos 0) × ((pos range.most *ℤ current) ≤ℤ drive) × (drive ≤ℤ (pos range.least *ℤ current)))

-- that law at a ground, driven by times 10^6 P of its node
abbrev pub IsGroundWithin : Ranges → Solution → Placed → Type 0
IsGroundWithin ranges s p = IsOhmWithin (ranges p.1) (pos (p.1.times * 1000000) *ℤ s.potential p.1.from.0) (s.current p.0)

-- a varied solution: as a solution, but that each ground, which has no voltage, may have any rational resistance of its range
pub record IsVaried (standing : List Placed) (ranges : Ranges) (volts : ℕ → ℤ) (s : Solution) : Type 0 where
  pub denominator_above_0 : 0 < s.denominator
  pub ohm : All (λ p. IsFalse (is_ground p.1) → IsOhm volts s p) standing
  pub grounds : All (λ p. IsTrue (is_ground p.1) → IsGroundWithin ranges s p) standing
  pub none_if_open : (place : ℕ) → IsFalse (is_standing standing place) → s.current place ≡ pos 0
  pub kirchhoff : (k : ℕ) → IsLive standing k → IsKirchhoff standing s k

-- a fraction a/b of the range
pub record IsFractionOf (range : Range) (a b : ℕ) : Type 0 where
  pub some : 0 < b
  pub at_least : range.least * b ≤ a
  pub at_most : a ≤ range.most * b

-- Ohm's law of a/b micro-ohm, whole or not
abbrev pub IsOhmOf : (a b : ℕ) → (drive current : ℤ) → Type 0
IsOhmOf a b drive current = pos a *ℤ current ≡ pos b *ℤ drive

-- some resistance of the range
pub record HasResistance (range : Range) (drive current : ℤ) : Type 0 where
  pub numerator : ℕ
  pub denominator : ℕ
  pub inside : IsFractionOf range numerator denominator
  pub ohm : IsOhmOf numerator denominator drive current

-- Ohm's law within a range says that some resistance of the range has it
abbrev pub WithinIsSomeResistance : Type 0
WithinIsSomeResistance = (range : Range) (drive current : ℤ) → range.least ≤ range.most → IsOhmWithin range drive current ↔ HasResistance range drive current
