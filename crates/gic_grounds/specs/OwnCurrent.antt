-- The effective current of a transformer in the solutions whose potentials intervals in grains hold.
use Rattle.std.specs.Prelude.{ℕ, ◌*◌, List, ℤ}
use Rattle.gic_case.specs.Lists.{Lists}
use Rattle.gic_effective.specs.Holds.{HoldsSolution}
use Rattle.gic_effective.specs.Weighted.{effective_numerator}
use Rattle.gic_enclose.specs.Certain.{AreTight}
use Rattle.gic_fixed.specs.Encloses.{Encloses}
use Rattle.gic_fixed.specs.Ends.{Ends, IsAtMostWide}
use Rattle.gic_model.specs.Solution.{Solution, IsSolution}
use Rattle.gic_model.specs.Sums.{Placed}
use Rattle.gic_winding.specs.Weights.{transformer_at}

-- the interval holds it in nanoamperes per phase in each of these, and is at most 401 wide where the potentials are tight
pub record IsOwnCurrent (case : Lists) (standing : List Placed) (volts : ℕ → ℤ) (potentials : List Ends) (t : ℕ) (ends : Ends) : Type 0 where
  pub holds : (s : Solution) → IsSolution standing volts s → HoldsSolution standing potentials s →
      Encloses ends.low ends.high (effective_numerator case s t) (3 * (transformer_at case t).high_volts * s.denominator)
  pub tight : AreTight potentials → IsAtMostWide 401 ends.low ends.high
