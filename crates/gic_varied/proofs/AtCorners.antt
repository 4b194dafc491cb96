-- What is known of the corners of the ranges that tolerances give.
use Rattle.std.proofs.Common.{◌≡◌, ℕ, ◌≤◌, ◌<◌, Bool, true, false, cond, arith}
use Rattle.gic_base.proofs.Each.{weaker}
use Rattle.gic_model.specs.declared.parts.Item.{Item}
use Rattle.gic_model.specs.Limits.{IsWithinLimits, IsElementWithin}
use Rattle.gic_model.specs.Network.{Network}
use Rattle.gic_varied.specs.Corners.{Corner, corner_ohm, IsCornerOfRanges}
use Rattle.gic_varied.specs.EachGround.{HasGroundsInRanges}
use Rattle.gic_varied.specs.GroundLaws.{AreLesser}
use Rattle.gic_varied.specs.Grounds.{is_ground}
use Rattle.gic_varied.specs.Ranges.{Range, ranges_of, IsInRange}
use Rattle.gic_varied.proofs.AnyGrounds.{standing_in_ranges, any_within}
use Rattle.gic_varied.proofs.OwnRanges.{own_in_range}

-- both ends of a range that holds a resistance are in it
end_in_range : (range : Range) (own : ℕ) (b : Bool) → IsInRange range own → IsInRange range (cond b range.most range.least)
end_in_range range own true h =
    let from = h.at_least in
    let to = h.at_most in
    record { above_0 = h.above_0; at_least = omega arith; at_most = omega arith }
end_in_range range own false h =
    let from = h.at_least in
    let to = h.at_most in
    record { above_0 = h.above_0; at_least = omega arith; at_most = omega arith }

-- a resistance of a range is above 0 and not above the greatest
lesser_in_range : (range : Range) (ohm : ℕ) → IsInRange range ohm → (0 < ohm) × (ohm ≤ range.most)
lesser_in_range range ohm h =
    let above = h.above_0 in
    let from = h.at_least in
    (omega arith, h.at_most)

-- so each ground of a corner has a resistance of its range
corner_in_ranges : (network : Network) (percent : Item → ℕ) (corner : Corner) → IsWithinLimits network → HasGroundsInRanges network (ranges_of percent) (corner_ohm (ranges_of percent) corner)
corner_in_ranges network percent corner limits =
    weaker (IsElementWithin network.nodes) (λ e. is_ground e ≡ true → IsInRange (ranges_of percent e) (corner_ohm (ranges_of percent) corner e))
    (λ e h ground. end_in_range (ranges_of percent e) e.micro_ohm (corner e.from.0) (own_in_range (percent e.item) e.micro_ohm h.least_ohm h.most_ohm)) network.list limits.each_element

corner_lesser : (network : Network) (percent : Item → ℕ) (corner : Corner) → IsWithinLimits network → AreLesser network (corner_ohm (ranges_of percent) corner) (λ e. (ranges_of percent e).most)
corner_lesser network percent corner limits =
    weaker (λ e. is_ground e ≡ true → IsInRange (ranges_of percent e) (corner_ohm (ranges_of percent) corner e))
    (λ e. is_ground e ≡ true → (0 < corner_ohm (ranges_of percent) corner e) × (corner_ohm (ranges_of percent) corner e ≤ (ranges_of percent e).most))
    (λ e inside ground. lesser_in_range (ranges_of percent e) (corner_ohm (ranges_of percent) corner e) (inside ground)) network.list (corner_in_ranges network percent corner limits)

pub corners_are_of_ranges : (network : Network) (stands : Item → Bool) (percent : Item → ℕ) (corner : Corner) → IsWithinLimits network → IsCornerOfRanges network stands (ranges_of percent) corner
corners_are_of_ranges network stands percent corner limits = record {
  within = any_within network percent (corner_ohm (ranges_of percent) corner) limits (corner_in_ranges network percent corner limits);
  in_ranges = standing_in_ranges network stands (ranges_of percent) (corner_ohm (ranges_of percent) corner) (corner_in_ranges network percent corner limits);
  lesser = corner_lesser network percent corner limits;
}
