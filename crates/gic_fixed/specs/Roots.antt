-- Square roots of whole numbers, rounded.
use Rattle.std.specs.Prelude.{ℕ, ◌+◌, ◌*◌, ◌<◌, ◌≤◌}

-- the square root of a, rounded down
pub record IsFloorRoot (a root : ℕ) : Type 0 where
  pub square : root * root ≤ a
  pub next : a < (root + 1) * (root + 1)

-- the square root of a, rounded up
pub record IsCeilRoot (a root : ℕ) : Type 0 where
  pub square : a ≤ root * root
  pub least : (k : ℕ) → a ≤ k * k → root ≤ k
