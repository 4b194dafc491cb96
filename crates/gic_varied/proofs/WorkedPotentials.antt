-- The loop worked by hand: the ranges of its potentials, and the parts of its ranges that hold the greatest current.
use Rattle.std.proofs.Common.{◌≡◌, ℕ, true, false, ℤ, pos, negsuc, neg_ℤ, ◌*ℤ◌, ◌≤ℤ◌, arith, rules, refl, ap, ◌∙◌}
use lib.IntN.{*ℤ_comm, *ℤ-zero}
use Rattle.std.proofs.lemmas.Int.{ints}
use Rattle.std.proofs.lemmas.List.Elements.{All-from_recursion}
use Rattle.gic_fixed.proofs.Integers.{linear, *ℤ-neg_ℤ, *ℤ-≤ℤ}
use Rattle.gic_model.specs.Solution.{Solution}
use Rattle.gic_model.specs.Standing.{IsLive}
use Rattle.gic_model.specs.Sums.{Placed}
use Rattle.gic_model.specs.WorkedLoop.{loop, all_stand, loop_standing}
use Rattle.gic_exists.proofs.WorkedNetworks.{loop_limits, loop_earthed}
use Rattle.gic_varied.specs.Corners.{corner_ohm}
use Rattle.gic_varied.specs.Grounds.{is_ground, HaveNoGroundVolts}
use Rattle.gic_varied.specs.Parts.{NeverBelow0, NeverAbove0, IsPartOf, AreRaisingParts}
use Rattle.gic_varied.specs.PotentialRanges.{AreRaising, AreLowering}
use Rattle.gic_varied.specs.Ranges.{AreInRanges}
use Rattle.gic_varied.specs.Varied.{IsVaried}
use Rattle.gic_varied.specs.WorkedGrounds.{loop_ranges, line_of_800_volts}
use Rattle.gic_varied.specs.WorkedRanges.{most_at_a, most_at_b, highest_solution, lowest_solution, IsLoopSolution, AreLoopPotentials, both_least}
use Rattle.gic_varied.proofs.GreatestPotentials.{at_most, at_least}
use Rattle.gic_varied.proofs.Regrounded.{solves_with}

loop_quiet : HaveNoGroundVolts loop_standing line_of_800_volts
loop_quiet = search rules

inside_a : AreInRanges loop_ranges (corner_ohm loop_ranges most_at_a) loop_standing
inside_a = search rules

inside_b : AreInRanges loop_ranges (corner_ohm loop_ranges most_at_b) loop_standing
inside_b = search rules

solved_a : IsLoopSolution most_at_a lowest_solution
solved_a = search rules

solved_b : IsLoopSolution most_at_b highest_solution
solved_b = search rules

raising_b : AreRaising loop_standing loop_ranges (corner_ohm loop_ranges most_at_b) highest_solution.potential
raising_b = search rules

lowering_a : AreLowering loop_standing loop_ranges (corner_ohm loop_ranges most_at_a) lowest_solution.potential
lowering_a = search rules

-- over plain numbers: over a denominator of 1
once_below : (d : ℕ) (p u : ℤ) → (pos 1 *ℤ p) ≤ℤ (pos d *ℤ u) → p ≤ℤ (u *ℤ pos d)
once_below d p u h = let turned = *ℤ_comm (pos d) u in omega (arith, ints, h)

once_above : (d : ℕ) (p u : ℤ) → (pos d *ℤ u) ≤ℤ (pos 1 *ℤ p) → (u *ℤ pos d) ≤ℤ p
once_above d p u h = let turned = *ℤ_comm (pos d) u in omega (arith, ints, h)

pub loop_potentials_in_range : (s : Solution) → IsVaried loop_standing loop_ranges line_of_800_volts s → AreLoopPotentials s
loop_potentials_in_range s varies = record {
  a_at_least = once_above s.denominator (s.potential 0) (lowest_solution.potential 0) (below 0 refl);
  a_at_most = once_below s.denominator (s.potential 0) (highest_solution.potential 0) (above 0 refl);
  b_at_least = once_above s.denominator (s.potential 1) (lowest_solution.potential 1) (below 1 refl);
  b_at_most = once_below s.denominator (s.potential 1) (highest_solution.potential 1) (above 1 refl);
}
  where
    above : (k : ℕ) → IsLive loop_standing k → (pos 1 *ℤ s.potential k) ≤ℤ (pos s.denominator *ℤ highest_solution.potential k)
    above k live =
        at_most loop all_stand loop_ranges (corner_ohm loop_ranges most_at_b) line_of_800_volts highest_solution s k loop_limits loop_earthed loop_quiet inside_b
        (solves_with loop all_stand (corner_ohm loop_ranges most_at_b) line_of_800_volts highest_solution solved_b) raising_b varies live

    below : (k : ℕ) → IsLive loop_standing k → (pos s.denominator *ℤ lowest_solution.potential k) ≤ℤ (pos 1 *ℤ s.potential k)
    below k live =
        at_least loop all_stand loop_ranges (corner_ohm loop_ranges most_at_a) line_of_800_volts lowest_solution s k loop_limits loop_earthed loop_quiet inside_a
        (solves_with loop all_stand (corner_ohm loop_ranges most_at_a) line_of_800_volts lowest_solution solved_a) lowering_a varies live

-- two numbers of one sign
same_sign : (a b : ℤ) → pos 0 ≤ℤ a → pos 0 ≤ℤ b → pos 0 ≤ℤ (a *ℤ b)
same_sign (pos n) b first second = let times = *ℤ-≤ℤ n (pos 0) b second in let none = *ℤ-zero (pos n) in omega (arith, linear)
same_sign (negsuc n) b first second = absurd (omega (arith, ints, first))

both_below : (a b : ℤ) → a ≤ℤ pos 0 → b ≤ℤ pos 0 → pos 0 ≤ℤ (a *ℤ b)
both_below a b first second =
    let turned = same_sign (neg_ℤ a) (neg_ℤ b) (omega (arith, linear)) (omega (arith, linear)) in
    let one = *ℤ-neg_ℤ (neg_ℤ a) b in
    let other = *ℤ_comm (neg_ℤ a) b ∙ *ℤ-neg_ℤ b a ∙ ap neg_ℤ (*ℤ_comm b a) in
    omega (arith, linear)

at_a : (varied adjoint : Solution) → IsVaried loop_standing loop_ranges line_of_800_volts varied → IsVaried loop_standing loop_ranges line_of_800_volts adjoint →
    pos 0 ≤ℤ (adjoint.potential 0 *ℤ varied.potential 0)
at_a varied adjoint varies adjoins =
    let one = (loop_potentials_in_range adjoint adjoins).a_at_most in
    let other = (loop_potentials_in_range varied varies).a_at_most in
    both_below (adjoint.potential 0) (varied.potential 0) (omega (arith, ints, one)) (omega (arith, ints, other))

at_b : (varied adjoint : Solution) → IsVaried loop_standing loop_ranges line_of_800_volts varied → IsVaried loop_standing loop_ranges line_of_800_volts adjoint →
    pos 0 ≤ℤ (adjoint.potential 1 *ℤ varied.potential 1)
at_b varied adjoint varies adjoins =
    let one = (loop_potentials_in_range adjoint adjoins).b_at_least in
    let other = (loop_potentials_in_range varied varies).b_at_least in
    same_sign (adjoint.potential 1) (varied.potential 1) (omega (arith, ints, one)) (omega (arith, ints, other))

pub loop_raising_parts : AreRaisingParts loop_standing loop_ranges both_least line_of_800_volts line_of_800_volts
loop_raising_parts = All-from_recursion Part loop_standing (at_ground_a, (at_ground_b, ((λ ground. absurd (no_way ground)), ((λ ground. absurd (no_way ground)), ((λ ground. absurd (no_way ground)), tt)))))
  where
    Part : Placed → Type 0
    Part p = is_ground p.1 ≡ true → IsPartOf (loop_ranges p.1) (both_least p.1) (NeverBelow0 loop_standing loop_ranges line_of_800_volts line_of_800_volts p) (NeverAbove0 loop_standing loop_ranges line_of_800_volts line_of_800_volts p)

    no_way : false ≡ true → ⊥
    no_way q = cc

    at_ground_a : true ≡ true → IsPartOf (record { least = 800000; most = 1200000 }) (record { least = 800000; most = 800000 })
        ((varied adjoint : Solution) → IsVaried loop_standing loop_ranges line_of_800_volts varied → IsVaried loop_standing loop_ranges line_of_800_volts adjoint → pos 0 ≤ℤ (adjoint.potential 0 *ℤ varied.potential 0))
        ((varied adjoint : Solution) → IsVaried loop_standing loop_ranges line_of_800_volts varied → IsVaried loop_standing loop_ranges line_of_800_volts adjoint → (adjoint.potential 0 *ℤ varied.potential 0) ≤ℤ pos 0)
    at_ground_a ground = record { order = omega arith; at_least = omega arith; at_most = omega arith; greatest_left_out = λ less. at_a; least_left_out = λ less. absurd (omega (arith, less)) }

    at_ground_b : true ≡ true → IsPartOf (record { least = 800000; most = 1200000 }) (record { least = 800000; most = 800000 })
        ((varied adjoint : Solution) → IsVaried loop_standing loop_ranges line_of_800_volts varied → IsVaried loop_standing loop_ranges line_of_800_volts adjoint → pos 0 ≤ℤ (adjoint.potential 1 *ℤ varied.potential 1))
        ((varied adjoint : Solution) → IsVaried loop_standing loop_ranges line_of_800_volts varied → IsVaried loop_standing loop_ranges line_of_800_volts adjoint → (adjoint.potential 1 *ℤ varied.potential 1) ≤ℤ pos 0)
    at_ground_b ground = record { order = omega arith; at_least = omega arith; at_most = omega arith; greatest_left_out = λ less. at_b; least_left_out = λ less. absurd (omega (arith, less)) }
