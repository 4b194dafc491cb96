-- A case whose grounds are known within a tolerance.
use Rattle.std.specs.Prelude.{ℕ, ◌≤◌, List}
use Rattle.gic_case.specs.Lists.{Lists}
use Rattle.gic_model.specs.declared.parts.Switching.{Switching}
use Rattle.gic_model.specs.Standing.{standing_elements, stands_after}
use Rattle.gic_model.specs.Sums.{Placed}
use Rattle.gic_varied.specs.Corners.{Corner, with_corner}
use Rattle.gic_varied.specs.Ranges.{Ranges}
use Rattle.gic_winding.specs.ElementList.{elements_of}
use Rattle.gic_winding.specs.InForce.{standing_in}
use Rattle.gic_grounds.specs.declared.nets.GroundNets.{GroundNets}
use Rattle.gic_grounds.specs.Grounded.{least_standing, most_standing}
use Rattle.gic_grounds.specs.Nets.{AreExtremesOf}
use Rattle.gic_grounds.specs.Tolerances.{case_ranges}

-- the case, the switchings in force, and the tolerance of its grounds in per cent, but where they have their own
pub record Tolerated : Type 0 where
  pub case : Lists
  pub rows : List Switching
  pub percent : ℕ

-- a case with these
abbrev pub tolerated : Lists → List Switching → (percent : ℕ) → Tolerated
tolerated case rows percent = record { case = case; rows = rows; percent = percent }

-- the ranges of its grounds
abbrev pub ranges_in : Tolerated → Ranges
ranges_in v = case_ranges v.case v.percent

-- what stands of it, with its own grounds, with the least and with the greatest
abbrev pub own_in : Tolerated → List Placed
own_in v = standing_in v.case v.rows

abbrev pub least_in : Tolerated → List Placed
least_in v = least_standing v.case v.percent v.rows

abbrev pub most_in : Tolerated → List Placed
most_in v = most_standing v.case v.percent v.rows

-- and at a corner of its ranges
abbrev pub corner_in : Tolerated → Corner → List Placed
corner_in v corner = standing_elements (with_corner (ranges_in v) corner (elements_of v.case)) (stands_after v.rows)

-- the nets are those of the case with its grounds at the ends of their ranges; the tolerance that is asked for is at most 90 per cent
pub record AreNetsOf (v : Tolerated) (nets : GroundNets) : Type 0 where
  pub extremes : AreExtremesOf (elements_of v.case) (stands_after v.rows) (ranges_in v) nets
  pub most_percent : v.percent ≤ 90

-- they are nets of this case, for some switchings and some tolerance
pub record AreNetsFor (case : Lists) (nets : GroundNets) : Type 0 where
  pub rows : List Switching
  pub percent : ℕ
  pub of_case : AreNetsOf (tolerated case rows percent) nets
