-- The intervals of a reference, of its lifts and of an adjoint solution, as lists of the nodes' intervals.
use Rattle.std.specs.Prelude.{ℕ, ◌≡◌, ◌+◌, ◌^◌, List, length, if◌then◌else◌}
use Rattle.gic_enclose.specs.Ends.{potential_ends}
use Rattle.gic_fixed.specs.Ends.{Ends, zero_ends}
use Rattle.gic_model.specs.Limits.{most_wide_volts}
use Rattle.gic_model.specs.Network.{Network}
use Rattle.gic_net.specs.Net.{NetView, element_of, stands}
use Rattle.gic_varied.specs.Certified.{Intervals, product_at}
use Rattle.gic_varied.specs.Corners.{Corner}
use Rattle.gic_varied.specs.Enclosure.{stray_ends}
use Rattle.gic_varied.specs.Grounds.{is_ground}
use Rattle.gic_grounds.specs.declared.varied.VariedPotentials.{VariedPotentials}
use Rattle.gic_grounds.specs.declared.unit.TheConstants.{MOST_UNITS}
use Rattle.gic_grounds.specs.Lifting.{range_at}
use Rattle.gic_grounds.specs.NodeEnds.{AreAllWithin}

-- those of these lists
abbrev pub intervals_of : (adjoint : List Ends) → VariedPotentials → (own : Ends) → Intervals
intervals_of adjoint varied own = record {
  reference = potential_ends varied.reference;
  adjoint = potential_ends adjoint;
  lowering = potential_ends varied.lowering;
  raising = potential_ends varied.raising;
  own = own;
}

-- there is an interval for each of so many nodes in each list
pub record AreVariedOf (nodes : ℕ) (varied : VariedPotentials) : Type 0 where
  pub reference_count : length varied.reference ≡ nodes
  pub lowering_count : length varied.lowering ≡ nodes
  pub raising_count : length varied.raising ≡ nodes

-- no interval of a lift ends beyond this in nanovolts, which stand for units: no lift is above the greatest voltage for which a network is solved
abbrev pub most_lift : ℕ
most_lift = most_wide_volts + 1

-- nor one of an adjoint potential beyond this in its units
abbrev pub most_adjoint : ℕ
most_adjoint = 2 ^ 57 + 1

-- the reference's ends are within MOST_UNITS, and those of the lifts within their limit
pub record AreVariedWithin (varied : VariedPotentials) : Type 0 where
  pub reference_within : AreAllWithin MOST_UNITS varied.reference
  pub lowering_within : AreAllWithin most_lift varied.lowering
  pub raising_within : AreAllWithin most_lift varied.raising

-- the stray power, in units, of the element at a place: its resistances in the two networks are the ends of its range, and the corner tells which of them it has in the reference
abbrev pub stray_power_at : (least most : Network) → Corner → (unit : ℕ) → (adjoint : List Ends) → VariedPotentials → (place : ℕ) → Ends
stray_power_at least most corner unit adjoint varied place =
    let e = element_of least place in
    let range = range_at least most place in
    stray_ends range e.times (if corner e.from.0 then range.most else range.least) unit (product_at (intervals_of adjoint varied zero_ends) (place, e))

-- that of a ground that stands, and 0 of every other element
abbrev pub standing_stray_at : (least : NetView) → (most : Network) → Corner → (unit : ℕ) → (adjoint : List Ends) → VariedPotentials → (place : ℕ) → Ends
standing_stray_at least most corner unit adjoint varied place =
    let e = element_of least.network place in
    if is_ground e then (if stands least e.item then stray_power_at least.network most corner unit adjoint varied place else zero_ends) else zero_ends
