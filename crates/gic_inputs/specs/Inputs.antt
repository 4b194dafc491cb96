-- What contracts say of inputs.
use Rattle.std.specs.Prelude.{◌≡◌, List, [], length, unwrap_or, Option}
use Rattle.gic_model.specs.declared.parts.Switching.{Switching}
use Rattle.gic_inputs.specs.declared.inputs.StormInputs.{StormInputs}

-- the rows of the switchings, none where there are no switchings
abbrev pub rows_in : Option (List Switching) → List Switching
rows_in switchings = unwrap_or switchings []

-- the storm was read with the case: it has as many zones
abbrev pub IsStormOf : StormInputs → Type 0
IsStormOf inputs = inputs.storm.zones ≡ length inputs.case.zones
