-- The epochs of a storm. For the contracts of this crate.
use Rattle.std.specs.Prelude.{ℕ, ◌≤◌, length}
use Rattle.gic_storm.specs.Steps.{steps_in}
use Rattle.gic_switch.specs.declared.epoch.Epoch.{Epoch}
use Rattle.gic_switch.specs.Epochs.{HoldsIn}
use Rattle.gic_inputs.specs.Inputs.{rows_in}
use Rattle.gic_inputs.specs.declared.inputs.StormInputs.{StormInputs}

-- the step lies in the epoch
pub record HasStep (number : ℕ) (epoch : Epoch) : Type 0 where
  pub from_first : epoch.first ≤ number
  pub to_last : number ≤ epoch.last

-- the epoch has a step, all its steps are the storm's, and the switchings that it tells are in force at each
pub record IsEpochOf (inputs : StormInputs) (epoch : Epoch) : Type 0 where
  pub some : epoch.first ≤ epoch.last
  pub least : 1 ≤ epoch.first
  pub most : epoch.last ≤ length (steps_in inputs.storm.rows)
  pub in_force : HoldsIn inputs.storm.rows (rows_in inputs.switchings) epoch
