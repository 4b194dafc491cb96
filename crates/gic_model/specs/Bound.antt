-- Bound vectors: entries at the nodes that keep the row rule. A picture of it, which no clause tells: an entry is at least how many steps a walk from its node to earth takes in the mean, if it goes over elements by their conductances.
use Rattle.std.specs.Prelude.{ℕ, ◌≡◌, ◌≤◌, ◌<◌, ◌*◌, ◌^◌, List, IsFalse, ℤ, pos, ◌-ℤ◌, ◌*ℤ◌, ◌≤ℤ◌}
use Rattle.gic_base.specs.declared.limits.TheConstants.{FULL_WALK}
use Rattle.gic_fixed.specs.Rounding.{floor_div}
use Rattle.gic_model.specs.Standing.{is_live, IsLive, elements_at, other_end, value_at}
use Rattle.gic_model.specs.Sums.{Placed, sum_of}

-- one element's part in the row of the node k: the whole of times 10^6 2^20 (v_k - v_other - 1) / R, rounded down, with 0 for v at earth
abbrev pub row_part : (ℕ → ℕ) → ℕ → Placed → ℤ
row_part v k p =
    floor_div
    (pos (p.1.times * 1000000 * 2 ^ 20) *ℤ (pos (v k) -ℤ value_at (λ m. pos (v m)) (other_end k p.1) -ℤ pos 1))
    (pos p.1.micro_ohm)

-- the row rule at the node k: the parts of its standing elements add up to at least 0
abbrev pub MeetsRowRule : List Placed → (ℕ → ℕ) → ℕ → Type 0
MeetsRowRule standing v k = pos 0 ≤ℤ sum_of (row_part v k) (elements_at standing k)

-- at least 1 at each live node and 0 elsewhere, with the row rule at each live node
pub record IsBoundVector (standing : List Placed) (v : ℕ → ℕ) : Type 0 where
  pub live_above_0 : (k : ℕ) → IsLive standing k → 1 ≤ v k
  pub dead_0 : (k : ℕ) → IsFalse (is_live standing k) → v k ≡ 0
  pub rows : (k : ℕ) → IsLive standing k → MeetsRowRule standing v k

-- the network is earthed within m: some bound vector has no entry above m
pub record IsEarthedWithin (standing : List Placed) (m : ℕ) : Type 0 where
  pub entries : ℕ → ℕ
  pub bound : IsBoundVector standing entries
  pub none_above : (k : ℕ) → entries k ≤ m

-- from 1 to `FULL_WALK` at each live node and 0 elsewhere, with the row rule at each live node whose entry is below `FULL_WALK`
pub record IsCappedVector (standing : List Placed) (v : ℕ → ℕ) : Type 0 where
  pub live_above_0 : (k : ℕ) → IsLive standing k → 1 ≤ v k
  pub capped : (k : ℕ) → v k ≤ FULL_WALK
  pub dead_0 : (k : ℕ) → IsFalse (is_live standing k) → v k ≡ 0
  pub rows : (k : ℕ) → IsLive standing k → v k < FULL_WALK → MeetsRowRule standing v k

-- the capped vector that is at no node above any other capped vector
pub record IsLeastCappedVector (standing : List Placed) (v : ℕ → ℕ) : Type 0 where
  pub itself : IsCappedVector standing v
  pub least : (other : ℕ → ℕ) → IsCappedVector standing other → (k : ℕ) → v k ≤ other k
