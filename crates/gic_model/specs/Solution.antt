-- A solution of Ohm's and Kirchhoff's equations in whole numbers over one denominator.
use Rattle.std.specs.Prelude.{ℕ, ◌≡◌, ◌<◌, ◌*◌, List, IsFalse, ℤ, pos, ◌+ℤ◌, ◌-ℤ◌, ◌*ℤ◌}
use Rattle.std.specs.List.{All}
use Rattle.gic_model.specs.Standing.{IsLive, is_standing, elements_at, value_at, leaving}
use Rattle.gic_model.specs.Sums.{Placed, sum_of}

-- potentials of the nodes in nanovolts and currents of the elements in nanoamperes, each over the denominator
pub record Solution : Type 0 where
  pub potential : ℕ → ℤ
  pub current : ℕ → ℤ
  pub denominator : ℕ

-- R I = times 10^6 (P_from - P_to + volts), over the solution's denominator; the voltages are in nanovolts
abbrev pub IsOhm : (ℕ → ℤ) → Solution → Placed → Type 0
IsOhm volts s p =
    pos p.1.micro_ohm *ℤ s.current p.0 ≡
    pos (p.1.times * 1000000) *ℤ (s.potential p.1.from.0 -ℤ value_at s.potential p.1.to +ℤ pos s.denominator *ℤ volts p.0)

-- the currents that leave the node k add up to 0, where one that enters is counted below 0
abbrev pub IsKirchhoff : List Placed → Solution → ℕ → Type 0
IsKirchhoff standing s k = sum_of (λ p. leaving k p.1 (s.current p.0)) (elements_at standing k) ≡ pos 0

-- the numbers solve the network of these standing elements. Within the limits, where each live node is earthed, there are such numbers (`existence_law` of `gic_exists`), and any two agree (`agreement_law` there)
pub record IsSolution (standing : List Placed) (volts : ℕ → ℤ) (s : Solution) : Type 0 where
  pub denominator_above_0 : 0 < s.denominator
  pub ohm : All (IsOhm volts s) standing
  pub none_if_open : (place : ℕ) → IsFalse (is_standing standing place) → s.current place ≡ pos 0
  pub kirchhoff : (k : ℕ) → IsLive standing k → IsKirchhoff standing s k
