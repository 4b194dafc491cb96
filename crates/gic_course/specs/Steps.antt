-- The network of a case and its voltages at each step of a storm.
use Rattle.std.specs.Prelude.{ℕ, ◌≤◌, ℤ, List, length, map}
use Rattle.gic_model.specs.Standing.{rows_in_force}
use Rattle.gic_model.specs.Sums.{Placed}
use Rattle.gic_model.specs.Voltages.{number_at}
use Rattle.gic_induce.specs.LineVolts.{volts_of}
use Rattle.gic_storm.specs.Steps.{steps_in, step_at, first_time, time_of_step}
use Rattle.gic_storm.specs.StepFields.{fields_at_step}
use Rattle.gic_winding.specs.ElementList.{elements_of}
use Rattle.gic_winding.specs.InForce.{standing_in}
use Rattle.gic_inputs.specs.Inputs.{rows_in}
use Rattle.gic_inputs.specs.declared.inputs.StormInputs.{StormInputs}

-- steps are told by their numbers, from 1
pub record IsStepOf (inputs : StormInputs) (number : ℕ) : Type 0 where
  pub least : 1 ≤ number
  pub most : number ≤ length (steps_in inputs.storm.rows)

-- the elements that stand at a time, in seconds: the switchings in force are those that are not of a later time
abbrev pub standing_at_time : StormInputs → (time : ℕ) → List Placed
standing_at_time inputs time = standing_in inputs.case (rows_in_force time (rows_in inputs.switchings))

-- the elements that stand at a step
abbrev pub standing_at_step : StormInputs → (number : ℕ) → List Placed
standing_at_step inputs number = standing_at_time inputs (time_of_step inputs.storm.rows number)

-- those at all steps of the storm, in order
abbrev pub storm_steps : StormInputs → List (List Placed)
storm_steps inputs = map (λ step. standing_at_time inputs (first_time step)) (steps_in inputs.storm.rows)

-- the fields (north, east) of the zones at a step, in mV/km
abbrev pub storm_fields : StormInputs → (number : ℕ) → List (ℤ × ℤ)
storm_fields inputs number = fields_at_step inputs.storm.zones (step_at inputs.storm.rows number)

-- the voltages in nanovolts that they induce in the elements of the case, by their places
abbrev pub storm_volts : StormInputs → (number : ℕ) → ℕ → ℤ
storm_volts inputs number = number_at (volts_of inputs.case (storm_fields inputs number) (elements_of inputs.case).list)
