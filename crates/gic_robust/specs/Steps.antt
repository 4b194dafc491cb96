-- The network that a run of the mode needs.
use Rattle.std.specs.Prelude.{List, [], ◌∷◌}
use Rattle.gic_model.specs.Sums.{Placed}
use Rattle.gic_criteria.specs.declared.asked.RobustCriteria.{RobustCriteria}
use Rattle.gic_inputs.specs.declared.inputs.Inputs.{Inputs}
use Rattle.gic_inputs.specs.Inputs.{rows_in}
use Rattle.gic_grounds.specs.Tolerated.{Tolerated, tolerated, most_in}

-- the case with all its switchings in force, and the tolerance of its grounds that is asked for
abbrev pub tolerated_of : Inputs RobustCriteria → Tolerated
tolerated_of inputs = tolerated inputs.case (rows_in inputs.switchings) inputs.question.tolerance

-- the one step of a run: what stands of the network with each ground at the greatest resistance of its range
abbrev pub most_steps : Inputs RobustCriteria → List (List Placed)
most_steps inputs = most_in (tolerated_of inputs) ∷ []
