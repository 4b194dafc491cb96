-- The voltages of lifts.
use Rattle.std.specs.Prelude.{ℕ, List, ℤ, pos, if◌then◌else◌}
use Rattle.gic_enclose.specs.Ends.{potential_ends}
use Rattle.gic_fixed.specs.Ends.{Ends}
use Rattle.gic_model.specs.Network.{Network}
use Rattle.gic_net.specs.Net.{element_of}
use Rattle.gic_varied.specs.Corners.{Corner, raising_height, lowering_height}
use Rattle.gic_varied.specs.Enclosure.{lift_volt}
use Rattle.gic_varied.specs.Grounds.{is_ground}
use Rattle.gic_varied.specs.Ranges.{Range}
use Rattle.gic_grounds.specs.declared.side.Side.{Side}
use Rattle.gic_grounds.specs.declared.side.Side.TheVariants.{Lowering, Raising}

-- over which height a lift is made at the grounds of a node, where the reference's are at this corner
abbrev pub height_at : Corner → Side → List Ends → ℕ → ℤ
height_at corner Lowering reference k = lowering_height corner (potential_ends reference) k
height_at corner Raising reference k = raising_height corner (potential_ends reference) k

-- the resistances of an element in two networks
abbrev pub range_at : (least most : Network) → (place : ℕ) → Range
range_at least most place = record { least = (element_of least place).micro_ohm; most = (element_of most place).micro_ohm }

-- the voltage of a lift at a ground, and 0 at every other element
abbrev pub lift_at : (least most : Network) → (height : ℕ → ℤ) → (place : ℕ) → ℤ
lift_at least most height place =
    let e = element_of least place in
    if is_ground e then lift_volt (range_at least most place) (height e.from.0) else pos 0
