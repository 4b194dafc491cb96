use Rattle.gic_model.specs.Standing.{standing_elements}
use Rattle.gic_model.proofs.Ends.{standing_within}
use Rattle.gic_model.proofs.Pushes.{potentials_bounded}
use Rattle.gic_model.proofs.laws.potential_law.Goals as goal

pub returns : goal.returns
returns c network stands volts s k limits earthed volt solves live =
    potentials_bounded network.nodes (standing_elements network stands) (standing_within network stands limits) volts s earthed volt solves k live
