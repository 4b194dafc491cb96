-- The same loop, with 0.8 to 1.2 ohm at each of its grounds: the ranges of its potentials, the adjoint form and the turning of its grounds by hand. At A, which is below 0, 0.8 ohm gives the greatest potentials of all nodes, and at B, which is above, 1.2 ohm: 250 amperes flow then, and A is at -200 volts and B at 300. The other way round A is at -300 volts and B at 200.
use Rattle.std.specs.Prelude.{◌==◌, List, [], ◌∷◌, ℤ, pos, neg_ℤ, ◌*ℤ◌, ◌≤ℤ◌, slice_index_or}
use Rattle.gic_model.specs.Solution.{Solution, IsSolution}
use Rattle.gic_model.specs.Standing.{standing_elements}
use Rattle.gic_model.specs.WorkedLoop.{loop, all_stand, loop_standing}
use Rattle.gic_varied.specs.Corners.{Corner, with_corner}
use Rattle.gic_varied.specs.Ranges.{Ranges}
use Rattle.gic_varied.specs.Varied.{IsVaried}
use Rattle.gic_varied.specs.WorkedGrounds.{loop_ranges, line_of_800_volts}

-- 1.2 ohm at A alone, and at B alone
abbrev pub most_at_a : Corner
most_at_a k = k == 0

abbrev pub most_at_b : Corner
most_at_b k = k == 1

abbrev pub highest_potentials : List ℤ
highest_potentials = neg_ℤ (pos 200000000000) ∷ pos 300000000000 ∷ neg_ℤ (pos 225000000000) ∷ pos 325000000000 ∷ []

abbrev pub lowest_potentials : List ℤ
lowest_potentials = neg_ℤ (pos 300000000000) ∷ pos 200000000000 ∷ neg_ℤ (pos 325000000000) ∷ pos 225000000000 ∷ []

-- 250 amperes round the loop
abbrev pub middle_currents : List ℤ
middle_currents = neg_ℤ (pos 250000000000) ∷ pos 250000000000 ∷ pos 250000000000 ∷ neg_ℤ (pos 250000000000) ∷ pos 250000000000 ∷ []

abbrev pub middle_solution : List ℤ → Solution
middle_solution potentials = record {
  potential = λ k. slice_index_or potentials k (pos 0);
  current = λ place. slice_index_or middle_currents place (pos 0);
  denominator = 1;
}

abbrev pub highest_solution : Solution
highest_solution = middle_solution highest_potentials

abbrev pub lowest_solution : Solution
lowest_solution = middle_solution lowest_potentials

-- a solution of the loop at such a corner
abbrev pub IsLoopSolution : Corner → Solution → Type 0
IsLoopSolution corner s = IsSolution (standing_elements (with_corner loop_ranges corner loop) all_stand) line_of_800_volts s

-- the potentials of A and B, in volts of the highest and the lowest solution
pub record AreLoopPotentials (s : Solution) : Type 0 where
  pub a_at_least : (neg_ℤ (pos 300000000000) *ℤ pos s.denominator) ≤ℤ s.potential 0
  pub a_at_most : s.potential 0 ≤ℤ (neg_ℤ (pos 200000000000) *ℤ pos s.denominator)
  pub b_at_least : (pos 200000000000 *ℤ pos s.denominator) ≤ℤ s.potential 1
  pub b_at_most : s.potential 1 ≤ℤ (pos 300000000000 *ℤ pos s.denominator)

abbrev pub LoopPotentialsAreInRange : Type 0
LoopPotentialsAreInRange = (s : Solution) → IsVaried loop_standing loop_ranges line_of_800_volts s → AreLoopPotentials s

-- with the line's voltage as its weight, a solution is its own adjoint solution. So the product at each ground is that of two potentials of one sign, and the greatest current flows with both grounds at their least
abbrev pub both_least : Ranges
both_least e = record { least = (loop_ranges e).least; most = (loop_ranges e).least }
