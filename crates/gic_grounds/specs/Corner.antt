-- Corners of the ranges of grounds, as marks of the nodes, and nets that are at them.
use Rattle.std.specs.Prelude.{ℕ, ◌≡◌, ◌<◌, Bool, false, not, List, length, slice_index_or, int_lt, pos, if◌then◌else◌}
use Rattle.gic_enclose.specs.Ends.{potential_ends}
use Rattle.gic_fixed.specs.Ends.{Ends}
use Rattle.gic_model.specs.declared.parts.Element.{Element}
use Rattle.gic_net.specs.Net.{NetView, element_of}
use Rattle.gic_varied.specs.Corners.{Corner}
use Rattle.gic_grounds.specs.declared.extreme.Extreme.{Extreme}
use Rattle.gic_grounds.specs.declared.extreme.Extreme.TheVariants.{Least, Most}
use Rattle.gic_grounds.specs.declared.nets.GroundNets.{GroundNets}

-- the corner where the grounds of the marked nodes are at their greatest; where there is no mark, they are at their least
abbrev pub is_most_at : List Bool → Corner
is_most_at marks k = slice_index_or marks k false

-- an element of the one net, with the resistance that it has in the other where the corner names its node
abbrev pub element_at_corner : Corner → (least most : Element) → Element
element_at_corner corner least most = record least { micro_ohm = if corner least.from.0 then most.micro_ohm else least.micro_ohm }

-- the net is the one with the least grounds, but that it has the greatest at the grounds of the nodes that the corner names
pub record IsCornerNet (nets : GroundNets) (corner : Corner) (net : NetView) : Type 0 where
  pub same_nodes : net.network.nodes ≡ nets.least.network.nodes
  pub same_count : length net.network.list ≡ length nets.least.network.list
  pub each : (place : ℕ) → place < length nets.least.network.list →
      element_of net.network place ≡ element_at_corner corner (element_of nets.least.network place) (element_of nets.most.network place)
  pub same_items : net.open_items ≡ nets.least.open_items

-- it is so at some corner
pub record IsSomeCornerNet (nets : GroundNets) (net : NetView) : Type 0 where
  pub corner : Corner
  pub at_corner : IsCornerNet nets corner net

-- whether an interval reaches above 0
abbrev pub is_above_0 : Ends → Bool
is_above_0 ends = int_lt (pos 0) ends.high

-- whether a ground at a node with these adjoint and reference potentials is to be at its greatest resistance for the least current, or for the greatest: where both potentials have one sign, a lesser resistance adds to the current
abbrev pub is_most_for : Extreme → (adjoint reference : Ends) → Bool
is_most_for Least adjoint reference = if is_above_0 adjoint then is_above_0 reference else not (is_above_0 reference)
is_most_for Most adjoint reference = if is_above_0 adjoint then not (is_above_0 reference) else is_above_0 reference

-- a corner as the signs of an adjoint solution's and of a reference's potentials name it, for this extreme of a transformer's current
abbrev pub IsChosen : Extreme → (adjoint reference : List Ends) → Corner → Type 0
IsChosen extreme adjoint reference corner =
    (k : ℕ) → k < length adjoint → corner k ≡ is_most_for extreme (potential_ends adjoint k) (potential_ends reference k)
