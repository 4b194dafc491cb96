-- The limits of a network and of its voltages.
use Rattle.std.specs.Prelude.{ℕ, ◌≡◌, ◌≤◌, ◌<◌, ◌^◌, ◌⊎◌, false, length, ℤ, unsigned_abs}
use Rattle.std.specs.List.{AllByRecursion, count_by}
use Rattle.gic_base.specs.declared.limits.TheConstants.{MOST_NODES, MOST_ELEMENTS, MOST_AT_A_NODE}
use Rattle.gic_model.specs.declared.parts.End.{End}
use Rattle.gic_model.specs.declared.parts.End.TheVariants.{Node, Earth}
use Rattle.gic_model.specs.declared.parts.Element.{Element}
use Rattle.gic_model.specs.Network.{Network, is_node, ends_at}

-- the greatest voltage in nanovolts, either way
abbrev pub most_volts : ℕ
most_volts = 60000000000000

-- no voltage is above the greatest, either way
abbrev pub AreVolts : (ℕ → ℤ) → Type 0
AreVolts volts = (place : ℕ) → unsigned_abs (volts place) ≤ most_volts

-- the greatest voltage in nanovolts for which a network is solved, either way: some 5000 times as great
abbrev pub most_wide_volts : ℕ
most_wide_volts = 2 ^ 58

-- no voltage is above this, either way
abbrev pub AreWideVolts : (ℕ → ℤ) → Type 0
AreWideVolts volts = (place : ℕ) → unsigned_abs (volts place) ≤ most_wide_volts

-- an end is one of the nodes, or earth
abbrev pub IsEndWithin : ℕ → End → Type 0
IsEndWithin nodes (Node m) = m.0 < nodes
IsEndWithin nodes Earth = Unit {0}

-- an element between two different ends of a network of this many nodes, with its resistance in micro-ohm within the limits
pub record IsElementWithin (nodes : ℕ) (e : Element) : Type 0 where
  pub from_node : e.from.0 < nodes
  pub to_end : IsEndWithin nodes e.to
  pub ends_differ : is_node e.to e.from.0 ≡ false
  pub one_or_three : (e.times ≡ 1) ⊎ (e.times ≡ 3)
  pub least_ohm : 1000 ≤ e.micro_ohm
  pub most_ohm : e.micro_ohm ≤ 1000000000

-- the network is within the limits, also in how many elements end at a node
pub record IsWithinLimits (n : Network) : Type 0 where
  pub few_nodes : n.nodes ≤ MOST_NODES
  pub few_elements : length n.list ≤ MOST_ELEMENTS
  pub each_element : AllByRecursion (IsElementWithin n.nodes) n.list
  pub few_at_a_node : (k : ℕ) → k < n.nodes → count_by (λ e. ends_at e k) n.list ≤ MOST_AT_A_NODE
