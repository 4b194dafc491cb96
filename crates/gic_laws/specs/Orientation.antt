-- The currents of a transformer over all orientations of a uniform field.
use Rattle.std.specs.Prelude.{◌≡◌, ℕ, ◌+◌, ◌*◌, ◌<◌, ◌≤◌, Bool, List, ℤ, pos, ◌*ℤ◌}
use Rattle.gic_case.specs.Lists.{Lists}
use Rattle.gic_model.specs.declared.parts.Item.{Item}
use Rattle.gic_model.specs.Earthing.{AreEarthed}
use Rattle.gic_model.specs.Limits.{IsWithinLimits}
use Rattle.gic_model.specs.Network.{Network}
use Rattle.gic_model.specs.Solution.{Solution, IsSolution}
use Rattle.gic_model.specs.Standing.{standing_elements}
use Rattle.gic_model.specs.Sums.{Placed}
use Rattle.gic_effective.specs.Weighted.{effective_numerator, effective_denominator}
use Rattle.gic_criteria.specs.Worst.{square_of}
use Rattle.gic_criteria.specs.VerdictLaws.{worst_square}
use Rattle.gic_uniform.specs.Uniform.{uniform_volts}

-- this many times the potentials and the currents, over the same denominator
abbrev pub times : (parts : ℕ) → Solution → Solution
times parts s = record {
  potential = λ node. pos parts *ℤ s.potential node;
  current = λ place. pos parts *ℤ s.current place;
  denominator = s.denominator;
}

-- solutions of one network, for voltages of a case: in a field of this strength to the north, in the same field to the east, and in the field (north/parts, east/parts), which they solve where that many times they solve (north, east)
pub record AreSolutions (case : Lists) (standing : List Placed) (strength north east : ℤ) (parts : ℕ) (to_north to_east s : Solution) : Type 0 where
  pub some_parts : 0 < parts
  pub in_north : IsSolution standing (uniform_volts case strength (pos 0)) to_north
  pub in_east : IsSolution standing (uniform_volts case (pos 0) strength) to_east
  pub in_both : IsSolution standing (uniform_volts case north east) (times parts s)

-- the transformer's signed effective currents to the north and to the east, both times the two denominators
abbrev pub north_current : Lists → (t : ℕ) → (to_north to_east : Solution) → ℤ
north_current case t to_north to_east = effective_numerator case to_north t *ℤ pos (effective_denominator case t to_east)

abbrev pub east_current : Lists → (t : ℕ) → (to_north to_east : Solution) → ℤ
east_current case t to_north to_east = effective_numerator case to_east t *ℤ pos (effective_denominator case t to_north)

-- the square of the signed effective current in the field (north/parts, east/parts), times the squares of the three denominators
abbrev pub current_squared : Lists → (t : ℕ) → (to_north to_east s : Solution) → ℕ
current_squared case t to_north to_east s =
    square_of (effective_numerator case s t *ℤ pos (effective_denominator case t to_north * effective_denominator case t to_east))

-- the sum of the squares of the currents to the north and to the east, times the same
abbrev pub worst_squared : Lists → (t : ℕ) → (to_north to_east s : Solution) → ℕ
worst_squared case t to_north to_east s =
    worst_square (effective_numerator case to_north t) (effective_denominator case t to_north) (effective_numerator case to_east t) (effective_denominator case t to_east)
    * square_of (pos (effective_denominator case t s))

-- whatever the network, and whichever of its elements stand: in no field of at most this strength, its two parts any rational numbers, is a transformer's current greater
abbrev pub NoFieldGivesMore : Type 0
NoFieldGivesMore = (case : Lists) (network : Network) (stands : Item → Bool) (strength north east : ℤ) (parts : ℕ) (to_north to_east s : Solution) (t : ℕ) →
    let standing = standing_elements network stands in
    IsWithinLimits network → AreEarthed standing → AreSolutions case standing strength north east parts to_north to_east s →
    square_of north + square_of east ≤ square_of (strength *ℤ pos parts) →
    current_squared case t to_north to_east s ≤ worst_squared case t to_north to_east s

-- and in a field that goes as these two currents do it is as great, in proportion to the field's strength
abbrev pub AlignedFieldGivesAsMuch : Type 0
AlignedFieldGivesAsMuch = (case : Lists) (network : Network) (stands : Item → Bool) (strength north east : ℤ) (parts : ℕ) (to_north to_east s : Solution) (t : ℕ) →
    let standing = standing_elements network stands in
    IsWithinLimits network → AreEarthed standing → AreSolutions case standing strength north east parts to_north to_east s →
    north *ℤ east_current case t to_north to_east ≡ east *ℤ north_current case t to_north to_east →
    square_of (strength *ℤ pos parts) * current_squared case t to_north to_east s ≡ (square_of north + square_of east) * worst_squared case t to_north to_east s
