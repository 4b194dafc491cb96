use Rattle.gic_model.specs.Standing.{standing_elements}
use Rattle.gic_model.proofs.laws.certificate_law.Goals as goal
use Rattle.gic_model.proofs.Ends.{standing_within}
use Rattle.gic_model.proofs.Certificate.{certificate}

pub returns : goal.returns
returns c network stands volts x s v t k limits solves bound settled live =
    certificate network.nodes (standing_elements network stands) (standing_within network stands limits) volts x s v t solves bound settled k live
