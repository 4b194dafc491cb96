-- Which certificates pass.
use Rattle.std.specs.Prelude.{ℕ, ◌≡◌, ◌*◌, ◌≤◌, ◌<◌, List, length, ℤ}
use Rattle.gic_model.specs.Standing.{is_live, IsLive}
use Rattle.gic_model.specs.Bound.{IsBoundVector}
use Rattle.gic_model.specs.Sums.{Placed}
use Rattle.gic_cert.specs.declared.limits.TheConstants.{MOST_CHECKED_RESIDUAL}
use Rattle.gic_cert.specs.Written.{Certificate, is_written, entry_of, guess_of, radius_of}
use Rattle.gic_cert.specs.Step.{most_residual, checked_step}

-- the certificate has this many nodes, and numbers at exactly the live ones
pub record HasNodes (nodes : ℕ) (standing : List Placed) (c : Certificate) : Type 0 where
  pub count : length c.nodes ≡ nodes
  pub live : (k : ℕ) → k < nodes → is_written c k ≡ is_live standing k

-- the rounded residual at the node k is at most `MOST_CHECKED_RESIDUAL`
abbrev pub IsResidualSmall : List Placed → (ℕ → ℤ) → Certificate → ℕ → Type 0
IsResidualSmall standing volts c k = most_residual standing volts (guess_of c) k ≤ MOST_CHECKED_RESIDUAL

-- the radius at the node k is at least its entry times the checked step
abbrev pub IsRadiusEnough : ℕ → List Placed → (ℕ → ℤ) → Certificate → ℕ → Type 0
IsRadiusEnough nodes standing volts c k = entry_of c k * checked_step standing volts (guess_of c) nodes ≤ radius_of c k

-- the certificate passes for a network with this many nodes and for these voltages
pub record IsPassing (nodes : ℕ) (standing : List Placed) (volts : ℕ → ℤ) (c : Certificate) : Type 0 where
  pub placed : HasNodes nodes standing c
  pub vector : IsBoundVector standing (entry_of c)
  pub residuals : (k : ℕ) → IsLive standing k → IsResidualSmall standing volts c k
  pub radii : (k : ℕ) → IsLive standing k → IsRadiusEnough nodes standing volts c k

-- a rule holds at each live node
abbrev pub HoldsWhereLive : List Placed → (ℕ → Type 0) → Type 0
HoldsWhereLive standing Rule = (k : ℕ) → IsLive standing k → Rule k

-- the node k is the first live node that breaks the rule
pub record IsFirstBreak (standing : List Placed) (Rule : ℕ → Type 0) (k : ℕ) : Type 0 where
  pub live : IsLive standing k
  pub broken : ¬ (Rule k)
  pub before : (j : ℕ) → j < k → IsLive standing j → Rule j
