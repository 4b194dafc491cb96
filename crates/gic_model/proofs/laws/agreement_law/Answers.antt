use Rattle.gic_model.specs.Standing.{standing_elements}
use Rattle.gic_model.proofs.Ends.{standing_within}
use Rattle.gic_model.proofs.Agreement.{potentials_agree}
use Rattle.gic_model.proofs.laws.agreement_law.Goals as goal

pub returns : goal.returns
returns c network stands volts one other k limits earthed first second live =
    potentials_agree network.nodes (standing_elements network stands) (standing_within network stands limits) volts one other first second earthed k live
