-- A node is earthed where a chain of standing elements leads from it to earth.
use Rattle.std.specs.Prelude.{ℕ, ◌<◌, ◌==◌, Bool, true, false, ◌&&◌, ◌||◌, List, [], ◌∷◌, IsTrue}
use Rattle.std.specs.List.{list_any}
use Rattle.gic_model.specs.declared.parts.End.{End}
use Rattle.gic_model.specs.declared.parts.End.TheVariants.{Node, Earth}
use Rattle.gic_model.specs.declared.parts.Element.{Element}
use Rattle.gic_model.specs.Network.{is_node}
use Rattle.gic_model.specs.Standing.{IsLive}
use Rattle.gic_model.specs.Sums.{Placed}

-- whether this end is earth
abbrev pub is_earth : End → Bool
is_earth (Node m) = false
is_earth Earth = true

-- whether the element runs between the nodes k and m
abbrev pub joins : ℕ → ℕ → Element → Bool
joins k m e = ((e.from.0 == k) && is_node e.to m) || ((e.from.0 == m) && is_node e.to k)

-- a standing element joins the nodes k and m
abbrev pub IsJoined : List Placed → ℕ → ℕ → Type 0
IsJoined standing k m = IsTrue (list_any (λ p. joins k m p.1) standing)

-- a standing element leads from the node k to earth
abbrev pub LeadsToEarth : List Placed → ℕ → Type 0
LeadsToEarth standing k = IsTrue (list_any (λ p. (p.1.from.0 == k) && is_earth p.1.to) standing)

-- from the node k over these nodes, each joined to the one before, and from the last to earth
abbrev pub IsChainToEarth : List Placed → ℕ → List ℕ → Type 0
IsChainToEarth standing k [] = LeadsToEarth standing k
IsChainToEarth standing k (next ∷ rest) = IsJoined standing k next × IsChainToEarth standing next rest

-- a live node from which such a chain leads
pub record IsEarthed (standing : List Placed) (k : ℕ) : Type 0 where
  pub live : IsLive standing k
  pub over : List ℕ
  pub chain : IsChainToEarth standing k over

-- each live node is earthed
abbrev pub AreEarthed : List Placed → Type 0
AreEarthed standing = (k : ℕ) → IsLive standing k → IsEarthed standing k

-- the first live node, in node order, that is not earthed
pub record IsFirstUnearthed (standing : List Placed) (k : ℕ) : Type 0 where
  pub live : IsLive standing k
  pub unearthed : ¬ IsEarthed standing k
  pub first : (j : ℕ) → j < k → IsLive standing j → IsEarthed standing j
