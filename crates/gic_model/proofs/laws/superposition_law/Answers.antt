use Rattle.gic_model.specs.Standing.{standing_elements}
use Rattle.gic_model.proofs.Superposition.{superposition}
use Rattle.gic_model.proofs.laws.superposition_law.Goals as goal

pub returns : goal.returns
returns c network stands = superposition (standing_elements network stands)
