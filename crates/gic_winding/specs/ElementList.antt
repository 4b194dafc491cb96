-- The element list of a case. Nodes are numbered in the order of `node_names`: the substations, then the buses, then the neutral nodes. Resistances are in micro-ohm.
use Rattle.std.specs.Prelude.{ℕ, ◌+◌, List, [], ◌∷◌, ◌++◌, length, map, flat_map, slice_index_or, Option, Some, None, if◌then◌else◌}
use Rattle.std.specs.List.{enumerate_from}
use Rattle.gic_base.specs.declared.id.NodeId.{NodeId}
use Rattle.gic_case.specs.declared.item.Line.{Line}
use Rattle.gic_case.specs.declared.item.Neutral.{Neutral}
use Rattle.gic_case.specs.declared.item.Neutral.TheVariants as devices
use Rattle.gic_case.specs.declared.winding.WindingRole.{WindingRole}
use Rattle.gic_case.specs.declared.winding.WindingRole.TheVariants as roles
use Rattle.gic_case.specs.declared.winding.Winding.{Winding}
use Rattle.gic_case.specs.Lists.{Lists, node_names, end_node, grid_of, neutrals_of}
use Rattle.gic_case.specs.Windings.{windings_of}
use Rattle.gic_model.specs.declared.parts.End.TheVariants.{Node, Earth}
use Rattle.gic_model.specs.declared.parts.Item.{Item}
use Rattle.gic_model.specs.declared.parts.Item.TheVariants as item
use Rattle.gic_model.specs.declared.parts.Role.{Role}
use Rattle.gic_model.specs.declared.parts.Role.TheVariants as role
use Rattle.gic_model.specs.declared.parts.Element.{Element}
use Rattle.gic_model.specs.Network.{Network}

-- the node at a place in the node order
abbrev pub node : (place : ℕ) → NodeId
node place = record { 0 = place }

-- the earthing of the substation at a place, from its node to earth
abbrev pub earthing : (place ohm : ℕ) → Element
earthing place ohm = record { from = node place; to = Earth; times = 1; micro_ohm = ohm; item = item.Ground place; role = role.Ground }

-- the line at a place, between two nodes, with a path for each of the three phases
abbrev pub line : (place from to ohm : ℕ) → Element
line place from to ohm = record { from = node from; to = Node (node to); times = 3; micro_ohm = ohm; item = item.Line place; role = role.Line }

-- a winding of the transformer at a place, between two nodes, with a path for each of the three phases
abbrev pub winding : (place : ℕ) → Role → (from to ohm : ℕ) → Element
winding place kept from to ohm = record { from = node from; to = Node (node to); times = 3; micro_ohm = ohm; item = item.Transformer place; role = kept }

-- the neutral resistor of the transformer at a place, from the neutral node to the ground grid
abbrev pub resistor : (place neutral grid ohm : ℕ) → Element
resistor place neutral grid ohm = record { from = node neutral; to = Node (node grid); times = 1; micro_ohm = ohm; item = item.Neutral place; role = role.Neutral }

-- a substation with a ground resistance has an earthing
abbrev pub earthing_of : (place : ℕ) → Option ℕ → List Element
earthing_of place None = []
earthing_of place (Some ohm) = earthing place ohm ∷ []

-- a line that is not blocked runs from its one bus to the other
abbrev pub line_of : (first_bus place : ℕ) → Line → List Element
line_of first_bus place l = if l.blocked then [] else (line place (first_bus + l.from) (first_bus + l.to) l.resistance ∷ [])

-- what the element of a winding is
abbrev pub role_of : WindingRole → Role
role_of roles.High = role.High
role_of roles.Low = role.Low
role_of roles.Series = role.Series
role_of roles.Common = role.Common
role_of roles.Third = role.Third

-- the element of a winding of the transformer at a place, whose neutral is this node: from its bus to where it runs
abbrev pub winding_element : (first_bus place neutral : ℕ) → Winding → Element
winding_element first_bus place neutral w = winding place (role_of w.role) (first_bus + w.from.bus) (end_node first_bus neutral w.to) w.resistance

-- the elements of its windings
abbrev pub winding_elements : (first_bus place neutral : ℕ) → List Winding → List Element
winding_elements first_bus place neutral = map (winding_element first_bus place neutral)

-- a neutral resistor runs from the neutral to the ground grid; a blocking device gives no element
abbrev pub resistor_of : (place neutral grid : ℕ) → Option Neutral → List Element
resistor_of place neutral grid None = []
resistor_of place neutral grid (Some (devices.Resistor ohm)) = resistor place neutral grid ohm ∷ []
resistor_of place neutral grid (Some devices.Blocked) = []

-- the earthings, in substation order
abbrev pub earthings_of : Lists → List Element
earthings_of c = flat_map (λ p. earthing_of p.0 p.1.ground) (enumerate_from 0 c.substations)

-- the lines, in line order
abbrev pub lines_of : Lists → List Element
lines_of c = flat_map (λ p. line_of (length c.substations) p.0 p.1) (enumerate_from 0 c.lines)

-- the windings, in transformer order
abbrev pub all_windings_of : Lists → List Element
all_windings_of c = flat_map (λ p. winding_elements (length c.substations) p.0 p.1.0 (windings_of p.1.1)) (enumerate_from 0 (neutrals_of c))

-- the neutral resistors, in transformer order
abbrev pub resistors_of : Lists → List Element
resistors_of c = flat_map (λ p. resistor_of p.0 p.1.0 (grid_of c.buses p.1.1) p.1.1.neutral) (enumerate_from 0 (neutrals_of c))

-- the elements in their order
abbrev pub element_list : Lists → List Element
element_list c = earthings_of c ++ (lines_of c ++ (all_windings_of c ++ resistors_of c))

-- the network of a case
unfoldable pub elements_of : Lists → Network
elements_of c = record { nodes = length (node_names c); list = element_list c }

-- the name of the substation, line or transformer that an item belongs to
abbrev pub item_name : Lists → Item → List ℕ
item_name c (item.Ground place) = slice_index_or (map (λ s. s.name) c.substations) place []
item_name c (item.Line place) = slice_index_or (map (λ l. l.name) c.lines) place []
item_name c (item.Transformer place) = slice_index_or (map (λ t. t.name) c.transformers) place []
item_name c (item.Neutral place) = slice_index_or (map (λ t. t.name) c.transformers) place []
