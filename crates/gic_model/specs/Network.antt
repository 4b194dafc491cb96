-- A network: its number of nodes, and its elements by their places. A node is its place in the node order.
use Rattle.std.specs.Prelude.{ℕ, Bool, false, ◌==◌, ◌||◌, List}
use Rattle.gic_model.specs.declared.parts.End.{End}
use Rattle.gic_model.specs.declared.parts.End.TheVariants.{Node, Earth}
use Rattle.gic_model.specs.declared.parts.Element.{Element}

-- how many nodes there are, and the elements in the order of their places
pub record Network : Type 0 where
  pub nodes : ℕ
  pub list : List Element

-- whether this end is the node k
abbrev pub is_node : End → ℕ → Bool
is_node (Node m) k = m.0 == k
is_node Earth k = false

-- whether the element ends at the node k
abbrev pub ends_at : Element → ℕ → Bool
ends_at e k = (e.from.0 == k) || is_node e.to k
