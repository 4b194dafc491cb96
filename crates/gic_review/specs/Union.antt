-- How the first nodes are found of those that belong together, element after element.
use Rattle.std.specs.Prelude.{ℕ, ◌≡◌, ◌<◌, ◌≤◌, ◌==◌, min, max, List, length, map, fold, slice_index, if◌then◌else◌}
use Rattle.std.specs.List.{range_with_len}
use Rattle.gic_model.specs.declared.parts.End.{End}
use Rattle.gic_model.specs.declared.parts.End.TheVariants.{Node, Earth}
use Rattle.gic_model.specs.declared.parts.Element.{Element}
use Rattle.gic_model.specs.Network.{Network}

-- the lower of two first nodes in place of both
abbrev pub first_lowered : (a b first : ℕ) → ℕ
first_lowered a b first = if first == max a b then min a b else first

-- the first node of each node, where what belongs to two nodes is joined
abbrev pub united : List ℕ → (one other : ℕ) → List ℕ
united firsts one other = map (first_lowered (slice_index firsts one) (slice_index firsts other)) firsts

-- an element joins its two nodes; earthings join nothing
abbrev pub united_to : List ℕ → (from : ℕ) → End → List ℕ
united_to firsts from (Node m) = united firsts from m.0
united_to firsts from Earth = firsts

abbrev pub firsts_with : List ℕ → Element → List ℕ
firsts_with firsts e = united_to firsts e.from.0 e.to

-- for each node of a network the first of those that belong together with it
abbrev pub firsts_of : Network → List ℕ
firsts_of network = fold firsts_with (range_with_len 0 network.nodes) network.list

-- each node points at one that comes no later
abbrev pub ArePointers : List ℕ → Type 0
ArePointers pointers = (k : ℕ) → k < length pointers → slice_index pointers k ≤ k

-- the pointers from each node lead to its first node
pub record LeadTo (pointers firsts : List ℕ) : Type 0 where
  pub count : length pointers ≡ length firsts
  pub along : (k : ℕ) → k < length pointers → slice_index firsts k ≡ slice_index firsts (slice_index pointers k)
  pub itself : (k : ℕ) → k < length pointers → slice_index pointers k ≡ k → slice_index firsts k ≡ k
