-- Vectors to start from: raised under a cap, tested, and sunk.
use Rattle.std.specs.Prelude.{ℕ, ◌≡◌, ◌≤◌, ◌<◌, ◌+◌, ◌-◌, max, List, length, IsFalse}
use Rattle.gic_base.specs.declared.limits.TheConstants.{FULL_WALK}
use Rattle.gic_model.specs.Sums.{Placed}
use Rattle.gic_model.specs.Standing.{IsLive, is_live}
use Rattle.gic_model.specs.Bound.{IsCappedVector, MeetsRowRule}
use Rattle.gic_bound.specs.Shares.{entries_where_live}

-- both lists have this length
pub record AreForNodes (nodes : ℕ) (a b : List ℕ) : Type 0 where
  pub here : length a ≡ nodes
  pub there : length b ≡ nodes

-- no entry of v is above that of w at the same node
abbrev pub IsNotAbove : (ℕ → ℕ) → (ℕ → ℕ) → Type 0
IsNotAbove v w = (k : ℕ) → v k ≤ w k

-- from 1 to `FULL_WALK` at each live node and 0 elsewhere
pub record IsInRange (standing : List Placed) (v : ℕ → ℕ) : Type 0 where
  pub live_above_0 : (k : ℕ) → IsLive standing k → 1 ≤ v k
  pub capped : (k : ℕ) → v k ≤ FULL_WALK
  pub dead_0 : (k : ℕ) → IsFalse (is_live standing k) → v k ≡ 0

-- from low to the cap, with the row rule at each live node whose entry is below the cap
pub record IsHeld (standing : List Placed) (low cap v : ℕ → ℕ) : Type 0 where
  pub from_low : IsNotAbove low v
  pub to_cap : IsNotAbove v cap
  pub rows : (k : ℕ) → IsLive standing k → v k < cap k → MeetsRowRule standing v k

-- the held vector that is at no node above any other held vector
pub record IsLeastHeld (standing : List Placed) (low cap v : ℕ → ℕ) : Type 0 where
  pub itself : IsHeld standing low cap v
  pub least : (other : ℕ → ℕ) → IsHeld standing low cap other → IsNotAbove v other

-- from low to the cap, and at no node above any held vector
pub record IsUnderHeld (standing : List Placed) (low cap v : ℕ → ℕ) : Type 0 where
  pub from_low : IsNotAbove low v
  pub to_cap : IsNotAbove v cap
  pub under : (other : ℕ → ℕ) → IsHeld standing low cap other → IsNotAbove v other

-- a vector that came from old: where old is nowhere more than d above a capped vector, new isn't either
abbrev pub KeepsShifts : List Placed → (ℕ → ℕ) → (ℕ → ℕ) → Type 0
KeepsShifts standing old new = (u : ℕ → ℕ) (d : ℕ) → IsCappedVector standing u →
    IsNotAbove old (λ k. u k + d) → IsNotAbove new (λ k. u k + d)

-- the entries less a step, though at least 1, at live nodes, and 0 at dead ones
abbrev pub lowered : List Placed → ℕ → (ℕ → ℕ) → ℕ → ℕ
lowered standing step v = entries_where_live standing (λ k. max (v k - step) 1)

-- w is v sunk by a step: the least vector that is held from v less the step up to v
abbrev pub IsSunk : List Placed → ℕ → (ℕ → ℕ) → (ℕ → ℕ) → Type 0
IsSunk standing step v w = IsLeastHeld standing (lowered standing step v) v w

-- v is held alone: no other vector is held from v less 1 up to v
abbrev pub IsHeldAlone : List Placed → (ℕ → ℕ) → Type 0
IsHeldAlone standing v = (other : ℕ → ℕ) → IsHeld standing (lowered standing 1 v) v other → (k : ℕ) → other k ≡ v k
