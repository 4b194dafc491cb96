-- The step that is shown in full.
use Rattle.std.specs.Prelude.{ℕ, ◌&&◌, nat_le, length, Option, None, Some, if◌then◌else◌}
use Rattle.gic_storm.specs.Steps.{steps_in}
use Rattle.gic_inputs.specs.declared.inputs.StormInputs.{StormInputs}

-- the step that is asked for, where the storm has it: steps are told by their numbers, from 1
abbrev pub asked_step : StormInputs → Option ℕ → Option ℕ
asked_step inputs None = None
asked_step inputs (Some number) = if nat_le 1 number && nat_le number (length (steps_in inputs.storm.rows)) then Some number else None
