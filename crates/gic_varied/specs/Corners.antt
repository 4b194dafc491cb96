-- Corners of the ranges of grounds: networks with each ground at an end of its range.
use Rattle.std.specs.Prelude.{ℕ, Bool, false, if◌then◌else◌, ℤ, neg_ℤ}
use Rattle.gic_fixed.specs.Ends.{Ends}
use Rattle.gic_model.specs.declared.parts.Element.{Element}
use Rattle.gic_model.specs.declared.parts.Item.{Item}
use Rattle.gic_model.specs.Limits.{IsWithinLimits}
use Rattle.gic_model.specs.Network.{Network}
use Rattle.gic_model.specs.Standing.{standing_elements}
use Rattle.gic_varied.specs.Grounds.{with_grounds}
use Rattle.gic_varied.specs.GroundLaws.{AreLesser}
use Rattle.gic_varied.specs.Ranges.{Ranges, ranges_of, AreInRanges}

-- of each node whether its grounds are at their greatest resistances; else they are at their least
abbrev pub Corner : Type 0
Corner = ℕ → Bool

-- the one where all are at their least
abbrev pub all_least : Corner
all_least k = false

-- the resistance of a ground there
abbrev pub corner_ohm : Ranges → Corner → Element → ℕ
corner_ohm ranges corner e = if corner e.from.0 then (ranges e).most else (ranges e).least

-- the network with these resistances at its grounds
abbrev pub with_corner : Ranges → Corner → Network → Network
with_corner ranges corner network = with_grounds (corner_ohm ranges corner) network

-- over which height the lift that raises is made at a node's grounds: at their least resistances how far above 0 the reference's potential may be, since there such a ground takes more from the node than any other of its range would; at their greatest how far below 0 it may be, since there such a ground gives the node less than any other would
abbrev pub raising_height : Corner → (reference : ℕ → Ends) → ℕ → ℤ
raising_height corner reference k = if corner k then neg_ℤ (reference k).low else (reference k).high

-- and over which the lift that lowers is: at their least resistances how far below 0 it may be, since there such a ground gives the node more than any other would; at their greatest how far above 0, since there such a ground takes less from it
abbrev pub lowering_height : Corner → (reference : ℕ → Ends) → ℕ → ℤ
lowering_height corner reference k = if corner k then (reference k).high else neg_ℤ (reference k).low

-- what is known of each corner of the ranges that tolerances give: the network there is within the limits, its grounds have resistances of their ranges, and none is above the greatest
pub record IsCornerOfRanges (network : Network) (stands : Item → Bool) (ranges : Ranges) (corner : Corner) : Type 0 where
  pub within : IsWithinLimits (with_corner ranges corner network)
  pub in_ranges : AreInRanges ranges (corner_ohm ranges corner) (standing_elements network stands)
  pub lesser : AreLesser network (corner_ohm ranges corner) (λ e. (ranges e).most)

abbrev pub CornersAreOfRanges : Type 0
CornersAreOfRanges = (network : Network) (stands : Item → Bool) (percent : Item → ℕ) (corner : Corner) →
    IsWithinLimits network → IsCornerOfRanges network stands (ranges_of percent) corner
