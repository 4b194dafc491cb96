-- Nodes that are reached from earth.
use Rattle.std.specs.Prelude.{ℕ, ◌≡◌, ◌⊎◌, List, ◌++◌}
use Rattle.gic_model.specs.declared.parts.End.{End}
use Rattle.gic_model.specs.declared.parts.End.TheVariants.{Node, Earth}
use Rattle.gic_model.specs.Earthing.{IsJoined, LeadsToEarth, IsEarthed}
use Rattle.gic_model.specs.Sums.{Placed}
use Rattle.gic_net.specs.Scratch.{IsReached}

-- each node that was reached is earthed, and each from which an element leads to earth was reached
pub record StartsAtEarth (standing : List Placed) (reached : List ℕ) : Type 0 where
  pub earthed : (k : ℕ) → IsReached reached k → IsEarthed standing k
  pub from_earth : (k : ℕ) → LeadsToEarth standing k → IsReached reached k

-- and each node that is joined to a reached one
pub record IsSpread (standing : List Placed) (reached : List ℕ) : Type 0 where
  pub starts : StartsAtEarth standing reached
  pub closed : (k m : ℕ) → IsReached reached k → IsJoined standing k m → IsReached reached m

-- the nodes that are joined to the node k were added at the end, and no others
pub record GainsJoined (standing : List Placed) (k : ℕ) (old new : List ℕ) : Type 0 where
  pub more : List ℕ
  pub at_the_end : new ≡ old ++ more
  pub each : (m : ℕ) → IsJoined standing k m → IsReached new m
  pub no_other : (m : ℕ) → IsReached new m → IsReached old m ⊎ IsJoined standing k m

-- this end is a node that was reached, or earth
abbrev pub IsReachedEnd : List ℕ → End → Type 0
IsReachedEnd reached (Node m) = IsReached reached m.0
IsReachedEnd reached Earth = Unit {0}
