-- What peaks enclose, whatever solution is taken of each step.
use Rattle.std.specs.Prelude.{ℕ, ◌*◌, ◌<◌, length, Option, None, Some, IsTrue, ℤ, pos, ◌*ℤ◌, ◌≤ℤ◌, unsigned_abs, ⊤}
use Rattle.gic_case.specs.Lists.{node_names}
use Rattle.gic_fixed.specs.Ends.{Ends}
use Rattle.gic_model.specs.Solution.{Solution, IsSolution}
use Rattle.gic_model.specs.Standing.{IsLive, is_standing}
use Rattle.gic_view.specs.View.{View, node_at, element_at, effective_at}
use Rattle.gic_winding.specs.ElementList.{elements_of}
use Rattle.gic_effective.specs.Weighted.{effective_numerator, effective_denominator}
use Rattle.gic_inputs.specs.declared.inputs.StormInputs.{StormInputs}
use Rattle.gic_course.specs.Steps.{IsStepOf, standing_at_step, storm_volts}

-- a solution of each step of the storm
abbrev pub AreStepSolutions : StormInputs → (solutions : ℕ → Solution) → Type 0
AreStepSolutions inputs solutions = (number : ℕ) → IsStepOf inputs number → IsSolution (standing_at_step inputs number) (storm_volts inputs number) (solutions number)

-- the interval encloses the greatest |n/d| over the steps that count: at each of them it is at most the high end, and at one it is at least the low end
pub record EnclosesPeak (inputs : StormInputs) (Counts : ℕ → Type 0) (n : ℕ → ℤ) (d : ℕ → ℕ) (e : Ends) : Type 0 where
  pub most : (number : ℕ) → IsStepOf inputs number → Counts number → pos (unsigned_abs (n number)) ≤ℤ (e.high *ℤ pos (d number))
  pub step : ℕ
  pub own : IsStepOf inputs step
  pub counts : Counts step
  pub least : (e.low *ℤ pos (d step)) ≤ℤ pos (unsigned_abs (n step))

-- there is an interval exactly where a step counts
abbrev pub EnclosesPeakIfAny : StormInputs → (Counts : ℕ → Type 0) → (n : ℕ → ℤ) → (d : ℕ → ℕ) → Option Ends → Type 0
EnclosesPeakIfAny inputs Counts n d None = (number : ℕ) → IsStepOf inputs number → Counts number → ⊥
EnclosesPeakIfAny inputs Counts n d (Some e) = EnclosesPeak inputs Counts n d e

-- the peak of a node is that of its potentials over the steps at which it is live
abbrev pub EnclosesNodePeak : StormInputs → (solutions : ℕ → Solution) → (peaks : View) → (k : ℕ) → Type 0
EnclosesNodePeak inputs solutions peaks k =
    EnclosesPeakIfAny inputs (λ number. IsLive (standing_at_step inputs number) k) (λ number. (solutions number).potential k) (λ number. 1000000 * (solutions number).denominator) (node_at peaks k)

-- that of an element is that of its currents over the steps at which it stands
abbrev pub EnclosesElementPeak : StormInputs → (solutions : ℕ → Solution) → (peaks : View) → (place : ℕ) → Type 0
EnclosesElementPeak inputs solutions peaks place =
    EnclosesPeakIfAny inputs (λ number. IsTrue (is_standing (standing_at_step inputs number) place)) (λ number. (solutions number).current place) (λ number. 1000000 * (solutions number).denominator) (element_at peaks place)

-- that of a transformer is that of its effective currents over all steps
abbrev pub EnclosesTransformerPeak : StormInputs → (solutions : ℕ → Solution) → (peaks : View) → (t : ℕ) → Type 0
EnclosesTransformerPeak inputs solutions peaks t =
    EnclosesPeak inputs (λ number. ⊤) (λ number. effective_numerator inputs.case (solutions number) t) (λ number. effective_denominator inputs.case t (solutions number)) (effective_at peaks t)

-- each peak encloses the greatest absolute value over the steps
pub record AreEnclosing (inputs : StormInputs) (peaks : View) (solutions : ℕ → Solution) : Type 0 where
  pub nodes : (k : ℕ) → k < length (node_names inputs.case) → EnclosesNodePeak inputs solutions peaks k
  pub elements : (place : ℕ) → place < length (elements_of inputs.case).list → EnclosesElementPeak inputs solutions peaks place
  pub transformers : (t : ℕ) → t < length inputs.case.transformers → EnclosesTransformerPeak inputs solutions peaks t
