-- Nodes belong together where a chain of elements leads from one to the other. Earthings, which run to remote earth, join nothing.
use Rattle.std.specs.Prelude.{ℕ, ◌≡◌, ◌&&◌, not, List, [], ◌∷◌, IsTrue}
use Rattle.std.specs.List.{list_any}
use Rattle.gic_model.specs.declared.parts.Element.{Element}
use Rattle.gic_model.specs.Network.{ends_at}
use Rattle.gic_model.specs.Earthing.{is_earth, joins}

-- an element runs between the nodes k and m
abbrev pub HasElementBetween : List Element → (k m : ℕ) → Type 0
HasElementBetween elements k m = IsTrue (list_any (joins k m) elements)

-- from the node k over these nodes, each joined to the one before, of which the last is the node m
abbrev pub IsChain : List Element → (k : ℕ) → List ℕ → (m : ℕ) → Type 0
IsChain elements k [] m = k ≡ m
IsChain elements k (next ∷ rest) m = HasElementBetween elements k next × IsChain elements next rest m

-- two nodes belong together that such a chain joins
pub record AreTogether (elements : List Element) (k m : ℕ) : Type 0 where
  pub over : List ℕ
  pub chain : IsChain elements k over m

-- an element other than an earthing ends at the node k
abbrev pub HasElement : List Element → (k : ℕ) → Type 0
HasElement elements k = IsTrue (list_any (λ e. ends_at e k && not (is_earth e.to)) elements)
