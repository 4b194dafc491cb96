-- Grounds, and the network with other resistances at its grounds.
use Rattle.std.specs.Prelude.{ℕ, ◌≡◌, Bool, List, map, IsTrue, ℤ, pos, if◌then◌else◌}
use Rattle.std.specs.List.{All, filter}
use Rattle.gic_model.specs.declared.parts.Element.{Element}
use Rattle.gic_model.specs.Earthing.{is_earth}
use Rattle.gic_model.specs.Network.{Network}
use Rattle.gic_model.specs.Sums.{Placed}

-- a ground is an element that ends at earth
abbrev pub is_ground : Element → Bool
is_ground e = is_earth e.to

-- the grounds among these elements
abbrev pub grounds_among : List Placed → List Placed
grounds_among standing = filter (λ p. is_ground p.1) standing

-- no ground among them has a voltage
abbrev pub HaveNoGroundVolts : List Placed → (ℕ → ℤ) → Type 0
HaveNoGroundVolts standing volts = All (λ p. IsTrue (is_ground p.1) → volts p.0 ≡ pos 0) standing

-- an element, with this resistance in micro-ohm where it is a ground
abbrev pub regrounded : (Element → ℕ) → Element → Element
regrounded ohm e = record e { micro_ohm = if is_ground e then ohm e else e.micro_ohm }

-- the network with these resistances at its grounds
abbrev pub with_grounds : (Element → ℕ) → Network → Network
with_grounds ohm n = record { nodes = n.nodes; list = map (regrounded ohm) n.list }
