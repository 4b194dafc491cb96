-- That a network has a solution, and that any two agree at live nodes after scaling.
use Rattle.std.specs.Prelude.{ℕ, ℤ, List}
use Rattle.gic_model.specs.Sums.{Placed}
use Rattle.gic_inputs.specs.declared.inputs.StormInputs.{StormInputs}
use Rattle.gic_course.specs.Steps.{IsStepOf, standing_at_step, storm_volts}
use Rattle.gic_exists.specs.Exists.{HasSolution, AnyTwoAgree}

-- a solution exists, and any two agree once scaled to one denominator: in the current of each element and the potential of each live node. At a dead node the potential is free
pub record HasOneSolution (standing : List Placed) (volts : ℕ → ℤ) : Type 0 where
  pub exists : HasSolution standing volts
  pub agree : AnyTwoAgree standing volts

-- there is one at each step of a storm
abbrev pub AreStepsSolved : StormInputs → Type 0
AreStepsSolved inputs = (number : ℕ) → IsStepOf inputs number → HasOneSolution (standing_at_step inputs number) (storm_volts inputs number)
