use Rattle.gic_model.proofs.Ends.{standing_within}
use Rattle.gic_model.specs.Standing.{standing_elements}
use Rattle.gic_claims.proofs.BoundEarthed.{bound_earthed}
use Rattle.gic_claims.proofs.laws.bound_networks_are_earthed_law.Goals as goal

pub returns : goal.returns
returns c = λ network stands v limits vector.
    bound_earthed network.nodes (standing_elements network stands) v (standing_within network stands limits) vector
