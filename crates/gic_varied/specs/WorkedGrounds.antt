-- The loop worked by hand, with 800 volts in its line and a tolerance of 20 per cent at its two grounds of 1 ohm: each has from 0.8 to 1.2 ohm, the loop from 2.8 to 3.6, and from 2000/9 to 2000/7 amperes flow round it. A third of that is the effective current of each transformer: 74074.07 to 95238.10 mA per phase.
use Rattle.std.specs.Prelude.{ℕ, ◌*ℤ◌, ◌≤ℤ◌, ◌==◌, List, [], ◌∷◌, if◌then◌else◌, ℤ, pos, neg_ℤ, slice_index_or}
use Rattle.gic_model.specs.Solution.{Solution}
use Rattle.gic_model.specs.WorkedLoop.{loop_standing}
use Rattle.gic_varied.specs.Ranges.{Ranges, ranges_of}
use Rattle.gic_varied.specs.Varied.{IsVaried}

-- 20 per cent at each ground
abbrev pub loop_ranges : Ranges
loop_ranges = ranges_of (λ item. 20)

-- 800 volts in the line
abbrev pub line_of_800_volts : ℕ → ℤ
line_of_800_volts place = if place == 2 then pos 800000000000 else pos 0

-- with 1.2 ohm at both grounds 2000/9 amperes flow
abbrev pub weak_potentials : List ℤ
weak_potentials = neg_ℤ (pos 2400000000000) ∷ pos 2400000000000 ∷ neg_ℤ (pos 2600000000000) ∷ pos 2600000000000 ∷ []

-- with 0.8 ohm at both 2000/7 amperes
abbrev pub strong_potentials : List ℤ
strong_potentials = neg_ℤ (pos 1600000000000) ∷ pos 1600000000000 ∷ neg_ℤ (pos 1800000000000) ∷ pos 1800000000000 ∷ []

-- 2000 amperes round the loop, which are over the denominator
abbrev pub round_currents : List ℤ
round_currents = neg_ℤ (pos 2000000000000) ∷ pos 2000000000000 ∷ pos 2000000000000 ∷ neg_ℤ (pos 2000000000000) ∷ pos 2000000000000 ∷ []

abbrev pub round_solution : List ℤ → ℕ → Solution
round_solution potentials denominator = record {
  potential = λ k. slice_index_or potentials k (pos 0);
  current = λ place. slice_index_or round_currents place (pos 0);
  denominator = denominator;
}

abbrev pub weak_solution : Solution
weak_solution = round_solution weak_potentials 9

abbrev pub strong_solution : Solution
strong_solution = round_solution strong_potentials 7

-- in each varied solution at least 2000/9 and at most 2000/7 amperes flow in the line
pub record IsLoopCurrent (s : Solution) : Type 0 where
  pub at_least : (pos 2000000000000 *ℤ pos s.denominator) ≤ℤ (pos 9 *ℤ s.current 2)
  pub at_most : (pos 7 *ℤ s.current 2) ≤ℤ (pos 2000000000000 *ℤ pos s.denominator)

abbrev pub LoopCurrentsAreBounded : Type 0
LoopCurrentsAreBounded = (s : Solution) → IsVaried loop_standing loop_ranges line_of_800_volts s → IsLoopCurrent s
