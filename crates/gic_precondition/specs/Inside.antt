-- Lists in which each number of a node is that of one of this many nodes.
use Rattle.std.specs.Prelude.{ℕ, ◌<◌, List}
use Rattle.std.specs.List.{All}
use Rattle.gic_model.specs.Limits.{IsEndWithin}
use Rattle.gic_precondition.specs.declared.parts.Wire.{Wire}
use Rattle.gic_precondition.specs.declared.parts.HalfEdge.{HalfEdge}
use Rattle.gic_precondition.specs.declared.parts.Neighbour.{Neighbour}
use Rattle.gic_precondition.specs.declared.parts.Step.{Step}
use Rattle.gic_precondition.specs.declared.parts.Entry.{Entry}

-- each is the number of one of this many nodes
abbrev pub AreNodes : ℕ → List ℕ → Type 0
AreNodes nodes list = All (λ k. k < nodes) list

-- a wire between these nodes, or from one to earth
abbrev pub IsWireInside : ℕ → Wire → Type 0
IsWireInside nodes wire = (wire.from < nodes) × IsEndWithin nodes wire.to

abbrev pub AreWiresInside : ℕ → List Wire → Type 0
AreWiresInside nodes wires = All (IsWireInside nodes) wires

-- each half-edge leads to one of this many nodes
abbrev pub AreHalfEdgesInside : ℕ → List HalfEdge → Type 0
AreHalfEdgesInside nodes half_edges = All (λ (half_edge : HalfEdge). half_edge.far < nodes) half_edges

-- each neighbour leads to one of this many nodes
abbrev pub AreNeighboursInside : ℕ → List Neighbour → Type 0
AreNeighboursInside nodes neighbours = All (λ (neighbour : Neighbour). neighbour.far < nodes) neighbours

-- each step eliminates one of this many nodes
abbrev pub AreStepsInside : ℕ → List Step → Type 0
AreStepsInside nodes steps = All (λ (step : Step). step.node < nodes) steps

-- each entry leads to one of this many nodes
abbrev pub AreEntriesInside : ℕ → List Entry → Type 0
AreEntriesInside nodes entries = All (λ (entry : Entry). entry.far < nodes) entries
