-- Vectors on the way up to the least capped one.
use Rattle.std.specs.Prelude.{ℕ, ◌≡◌, ◌≤◌, ◌<◌, List, IsFalse}
use Rattle.gic_base.specs.declared.limits.TheConstants.{FULL_WALK}
use Rattle.gic_model.specs.Sums.{Placed}
use Rattle.gic_model.specs.Standing.{IsLive, is_live}
use Rattle.gic_model.specs.Bound.{IsCappedVector, MeetsRowRule}

-- in the ranges of a capped vector, and at no node above any capped vector
pub record IsUnderCapped (standing : List Placed) (v : ℕ → ℕ) : Type 0 where
  pub live_above_0 : (k : ℕ) → IsLive standing k → 1 ≤ v k
  pub capped : (k : ℕ) → v k ≤ FULL_WALK
  pub dead_0 : (k : ℕ) → IsFalse (is_live standing k) → v k ≡ 0
  pub under : (other : ℕ → ℕ) → IsCappedVector standing other → (k : ℕ) → v k ≤ other k

-- the entry at the node k is too small: the node is live, the entry is below the cap, and the row rule fails
pub record IsTooSmall (standing : List Placed) (cap v : ℕ → ℕ) (k : ℕ) : Type 0 where
  pub live : IsLive standing k
  pub space : v k < cap k
  pub row : ¬ (MeetsRowRule standing v k)
