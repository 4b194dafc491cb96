-- What every case keeps.
use Rattle.std.specs.Prelude.{◌≡◌, ◌≢◌, ◌≤◌, ◌<◌, ℕ, List, ◌++◌, length, map, true, false, is_some, IfSome, All, AllPairs, IsTrue}
use Rattle.gic_base.specs.Name.{is_name}
use Rattle.gic_base.specs.declared.limits.TheConstants.{MOST_ZONES, MOST_SUBSTATIONS, MOST_BUSES, MOST_LINES, MOST_TRANSFORMERS, MOST_AT_A_NODE}
use Rattle.gic_case.specs.ZoneView.{ZoneView, IsZone}
use Rattle.gic_case.specs.declared.item.Substation.{Substation}
use Rattle.gic_case.specs.declared.item.Bus.{Bus}
use Rattle.gic_case.specs.declared.item.Line.{Line}
use Rattle.gic_case.specs.declared.item.Neutral.{Neutral}
use Rattle.gic_case.specs.declared.item.Neutral.TheVariants as devices
use Rattle.gic_case.specs.declared.item.Transformer.{Transformer}
use Rattle.gic_case.specs.declared.winding.Terminal.{Terminal}
use Rattle.gic_case.specs.declared.winding.WindingEnd.{WindingEnd}
use Rattle.gic_case.specs.declared.winding.WindingEnd.TheVariants as ends
use Rattle.gic_case.specs.declared.winding.Winding.{Winding}
use Rattle.gic_case.specs.Courses.{parts_of, north_way, east_way, AreFewParts}
use Rattle.gic_case.specs.Lists.{Lists, node_names, substation_at, element_ends, degree_of}
use Rattle.gic_case.specs.Windings.{windings_of, has_windings}

-- the lists with these rows
abbrev pub lists_with : List ZoneView → List Substation → List Bus → List Line → List Transformer → Lists
lists_with zones substations buses lines transformers = record { zones = zones; substations = substations; buses = buses; lines = lines; transformers = transformers }

-- the names of all rows, list after list
abbrev pub names_of : Lists → List (List ℕ)
names_of c = map (λ z. z.name) c.zones ++ (map (λ s. s.name) c.substations ++ (map (λ b. b.name) c.buses ++ (map (λ l. l.name) c.lines ++ map (λ t. t.name) c.transformers)))

-- a resistance in micro-ohm within its range
abbrev pub IsResistance : ℕ → Type 0
IsResistance ohm = (1000 ≤ ohm) × (ohm ≤ 1000000000)

-- a rated voltage in V within its range
abbrev pub IsRated : ℕ → Type 0
IsRated volts = (1000 ≤ volts) × (volts ≤ 2000000)

-- what every substation keeps: an earthing within the range, if any, and a tolerance of its own of at most 90 per cent, only where it has an earthing
pub record IsSoundSubstation (s : Substation) : Type 0 where
  pub ohm : IfSome s.ground IsResistance
  pub tolerance_most : IfSome s.tolerance (λ percent. percent ≤ 90)
  pub tolerance_of_ground : is_some s.tolerance ≡ true → is_some s.ground ≡ true

-- what every line keeps: two different buses of the case, parts in its zones, a resistance and ways within their ranges
pub record IsSoundLine (c : Lists) (l : Line) : Type 0 where
  pub from_within : l.from < length c.buses
  pub to_within : l.to < length c.buses
  pub zones_within : All (λ p. p.zone < length c.zones) (parts_of l.course)
  pub few_parts : AreFewParts l.course
  pub ends_differ : l.from ≢ l.to
  pub resistance_least : 1000 ≤ l.resistance
  pub resistance_most : l.resistance ≤ 1000000000
  pub north_within : north_way (parts_of l.course) ≤ 1000000
  pub east_within : east_way (parts_of l.course) ≤ 1000000

-- what the end of a winding keeps that runs from this terminal: another bus of the case, at a voltage not above the terminal's
abbrev pub IsSoundEnd : Lists → (from : Terminal) → WindingEnd → Type 0
IsSoundEnd c from (ends.Bus to) = (to.bus < length c.buses) × (to.bus ≢ from.bus) × (to.volts ≤ from.volts)
IsSoundEnd c from ends.Neutral = Unit {0}

-- what every winding of a unit of this high voltage keeps: buses of the case, a voltage and a resistance within their ranges, and no voltage above the high one
pub record IsSoundWinding (c : Lists) (high_volts : ℕ) (w : Winding) : Type 0 where
  pub bus_within : w.from.bus < length c.buses
  pub rated : IsRated w.from.volts
  pub order : w.from.volts ≤ high_volts
  pub end_sound : IsSoundEnd c w.from w.to
  pub ohm : IsResistance w.resistance

-- a neutral resistor is within the range
abbrev pub IsSoundDevice : Neutral → Type 0
IsSoundDevice (devices.Resistor ohm) = IsResistance ohm
IsSoundDevice devices.Blocked = Unit {0}

-- what every transformer keeps: a rated voltage, sound windings from different buses of one substation, and a sound neutral device if any, which a unit without windings hasn't
pub record IsSoundTransformer (c : Lists) (t : Transformer) : Type 0 where
  pub rated : IsRated t.high_volts
  pub windings_sound : All (IsSoundWinding c t.high_volts) (windings_of t)
  pub buses_differ : AllPairs (λ v w. v.from.bus ≢ w.from.bus) (windings_of t)
  pub together : AllPairs (λ v w. substation_at c.buses v.from.bus ≡ substation_at c.buses w.from.bus) (windings_of t)
  pub device_sound : IfSome t.neutral IsSoundDevice
  pub no_device : has_windings t ≡ false → is_some t.neutral ≡ false

-- what every case keeps
pub record IsSound (c : Lists) : Type 0 where
  pub few_zones : length c.zones ≤ MOST_ZONES
  pub few_substations : length c.substations ≤ MOST_SUBSTATIONS
  pub few_buses : length c.buses ≤ MOST_BUSES
  pub few_lines : length c.lines ≤ MOST_LINES
  pub few_transformers : length c.transformers ≤ MOST_TRANSFORMERS
  pub zones_sound : All IsZone c.zones
  pub substations_sound : All IsSoundSubstation c.substations
  pub buses_within : All (λ b. b.substation < length c.substations) c.buses
  pub lines_sound : All (IsSoundLine c) c.lines
  pub transformers_sound : All (IsSoundTransformer c) c.transformers
  pub names_sound : All (λ n. IsTrue (is_name n)) (names_of c)
  pub names_differ : AllPairs (λ x y. x ≢ y) (names_of c)
  pub few_ends : (k : ℕ) → k < length (node_names c) → degree_of (element_ends c) k ≤ MOST_AT_A_NODE
