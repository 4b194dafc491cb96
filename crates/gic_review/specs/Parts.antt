-- The parts of a network: nodes that belong together, where an element other than an earthing ends at one of them.
use Rattle.std.specs.Prelude.{ℕ, ◌≡◌, ◌<◌, ◌↔◌, ◌==◌, nat_le, not, Bool, List, [], ◌∷◌, length, flat_map, count_by, slice_index, IsTrue, if◌then◌else◌}
use Rattle.std.specs.List.{range_with_len, zip}
use Rattle.gic_model.specs.Network.{Network}
use Rattle.gic_review.specs.declared.findings.finding.Finding.{Finding}
use Rattle.gic_review.specs.declared.findings.finding.Finding.TheVariants.{Part}
use Rattle.gic_review.specs.Chains.{AreTogether, HasElement}

-- the first node of a part: no node before it belongs to it, and an element other than an earthing ends at a node that does
pub record IsFirstOfPart (network : Network) (k : ℕ) : Type 0 where
  pub first : (j : ℕ) → j < k → ¬ AreTogether network.list k j
  pub node : ℕ
  pub together : AreTogether network.list k node
  pub element : HasElement network.list node

-- this many nodes belong to the node k
pub record IsPartSize (network : Network) (k size : ℕ) : Type 0 where
  pub belongs : ℕ → Bool
  pub together : (m : ℕ) → m < network.nodes → IsTrue (belongs m) ↔ AreTogether network.list k m
  pub counted : size ≡ count_by belongs (range_with_len 0 network.nodes)

-- for each node how many nodes the part has whose first node it is, and 0 where it is no such node
pub record ArePartSizes (network : Network) (sizes : List ℕ) : Type 0 where
  pub count : length sizes ≡ network.nodes
  pub of_part : (k : ℕ) → k < network.nodes → IsFirstOfPart network k → IsPartSize network k (slice_index sizes k)
  pub of_none : (k : ℕ) → k < network.nodes → ¬ IsFirstOfPart network k → slice_index sizes k ≡ 0

-- a part is told by its size and the name of its first node
abbrev pub part_told : (first : List ℕ) (size : ℕ) → List Finding
part_told first size = if size == 0 then [] else Part size first ∷ []

-- the parts of these sizes, in the order of their first nodes
abbrev pub parts_told : (names : List (List ℕ)) → List ℕ → List Finding
parts_told names sizes = flat_map (λ p. part_told p.0 p.1) (zip names sizes)

-- there are two parts or more
abbrev pub are_several : List ℕ → Bool
are_several sizes = nat_le 2 (count_by (λ size. not (size == 0)) sizes)

-- parts are told where there is more than one
abbrev pub findings_of_parts : (names : List (List ℕ)) → List ℕ → List Finding
findings_of_parts names sizes = if are_several sizes then parts_told names sizes else []
