-- A case as contracts see it: its lists, the names of its nodes, and the ends of its elements.
use Rattle.std.specs.Prelude.{◌+◌, ◌==◌, ℕ, List, [], ◌∷◌, ◌++◌, length, map, flat_map, slice_index_or, slice_get, Bool, true, false, if◌then◌else◌, Option, Some, None, is_some, count_by}
use Rattle.std.specs.List.{enumerate_from, filter}
use Rattle.gic_case.specs.ZoneView.{ZoneView}
use Rattle.gic_case.specs.declared.item.Substation.{Substation}
use Rattle.gic_case.specs.declared.item.Bus.{Bus}
use Rattle.gic_case.specs.declared.item.Line.{Line}
use Rattle.gic_case.specs.declared.kind.Kind.{Kind}
use Rattle.gic_case.specs.declared.kind.Kind.TheVariants as kinds
use Rattle.gic_case.specs.declared.item.Neutral.{Neutral}
use Rattle.gic_case.specs.declared.item.Neutral.TheVariants as devices
use Rattle.gic_case.specs.declared.item.Transformer.{Transformer}
use Rattle.gic_case.specs.declared.winding.WindingEnd.{WindingEnd}
use Rattle.gic_case.specs.declared.winding.WindingEnd.TheVariants as ends
use Rattle.gic_case.specs.declared.winding.Winding.{Winding}
use Rattle.gic_case.specs.Windings.{windings_of}

-- the lists of a case, whose references are places in these lists, from 0
pub record Lists : Type 0 where
  pub zones : List ZoneView
  pub substations : List Substation
  pub buses : List Bus
  pub lines : List Line
  pub transformers : List Transformer

-- the substation of this name, with this earthing and this tolerance of its own
abbrev pub substation_with : List ℕ → (ground : Option ℕ) → (tolerance : Option ℕ) → Substation
substation_with name ground tolerance = record { name = name; ground = ground; tolerance = tolerance }

-- the transformers that have a neutral device, and with it a neutral node of their own
abbrev pub with_device : List Transformer → List Transformer
with_device = filter (λ t. is_some t.neutral)

-- the names of the nodes in node order: the substations, then the buses, then the neutral nodes, which are named as their transformers
abbrev pub node_names : Lists → List (List ℕ)
node_names c = map (λ s. s.name) c.substations ++ (map (λ b. b.name) c.buses ++ map (λ t. t.name) (with_device c.transformers))

-- the nodes at which the earthings end: the substations that have one
abbrev pub earthing_ends : List Substation → List ℕ
earthing_ends substations = flat_map (λ p. if is_some p.1.ground then p.0 ∷ [] else []) (enumerate_from 0 substations)

-- the nodes at which the lines end: the two buses of each line that isn't blocked
abbrev pub line_ends : (first_bus : ℕ) → List Line → List ℕ
line_ends first_bus lines = flat_map (λ l. if l.blocked then [] else (first_bus + l.from) ∷ (first_bus + l.to) ∷ []) lines

-- the place of the substation that the bus at a place is in
abbrev pub substation_at : List Bus → ℕ → ℕ
substation_at buses place = slice_index_or (map (λ b. b.substation) buses) place 0

-- the substation of the bus of a winding; where there is none, the first
abbrev pub grid_by : List Bus → Option Winding → ℕ
grid_by buses None = 0
grid_by buses (Some w) = substation_at buses w.from.bus

-- the ground grid of a transformer: the substation of its first winding; a unit without windings counts as at the first
abbrev pub grid_of : List Bus → Transformer → ℕ
grid_of buses t = grid_by buses (slice_get (windings_of t) 0)

-- each of these transformers with the node of its neutral: its own where it has a neutral device, numbered from here on, and its ground grid otherwise
abbrev pub neutrals_from : List Bus → (node : ℕ) → List Transformer → List (ℕ × Transformer)
neutrals_from buses node [] = []
neutrals_from buses node (t ∷ ts) = if is_some t.neutral then (node, t) ∷ neutrals_from buses (node + 1) ts else (grid_of buses t, t) ∷ neutrals_from buses node ts

-- the transformers of a case with the nodes of their neutrals; the neutral nodes follow the buses
abbrev pub neutrals_of : Lists → List (ℕ × Transformer)
neutrals_of c = neutrals_from c.buses (length c.substations + length c.buses) c.transformers

-- the node to which a winding of a transformer with this neutral runs
abbrev pub end_node : (first_bus neutral : ℕ) → WindingEnd → ℕ
end_node first_bus neutral (ends.Bus to) = first_bus + to.bus
end_node first_bus neutral ends.Neutral = neutral

-- the nodes at which the windings of a transformer with this neutral end
abbrev pub winding_ends : (first_bus neutral : ℕ) → List Winding → List ℕ
winding_ends first_bus neutral = flat_map (λ w. (first_bus + w.from.bus) ∷ end_node first_bus neutral w.to ∷ [])

-- the nodes at which a neutral resistor ends: the neutral node and the ground grid; a blocking device gives no element
abbrev pub device_ends : (neutral grid : ℕ) → Option Neutral → List ℕ
device_ends neutral grid None = []
device_ends neutral grid (Some (devices.Resistor ohm)) = neutral ∷ grid ∷ []
device_ends neutral grid (Some devices.Blocked) = []

-- the nodes at which the windings of the transformers end, and then those at which their neutral resistors end
abbrev pub transformer_ends : Lists → List ℕ
transformer_ends c =
    flat_map (λ p. winding_ends (length c.substations) p.0 (windings_of p.1)) (neutrals_of c)
    ++ flat_map (λ p. device_ends p.0 (grid_of c.buses p.1) p.1.neutral) (neutrals_of c)

-- the nodes at which the elements end, a node once for each end: earthings, lines, windings, neutral resistors
unfoldable pub element_ends : Lists → List ℕ
element_ends c = earthing_ends c.substations ++ (line_ends (length c.substations) c.lines ++ transformer_ends c)

-- how many of these ends are at the node
abbrev pub degree_of : List ℕ → ℕ → ℕ
degree_of ends k = count_by (λ n. n == k) ends

-- whether the core of a unit of a kind has an effective current here: not that of a reactor, and not where there are no windings
abbrev pub has_effect : {Bus : Type 0} → Kind Bus → Bool
has_effect (kinds.DeltaWye high high_resistance) = true
has_effect (kinds.WyeWye high low low_volts high_resistance low_resistance third) = true
has_effect (kinds.Auto high low low_volts series_resistance common_resistance third) = true
has_effect (kinds.Reactor high high_resistance) = false
has_effect kinds.DeltaDelta = false
