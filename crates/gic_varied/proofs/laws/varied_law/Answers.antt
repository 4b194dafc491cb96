use Rattle.gic_model.specs.Standing.{standing_elements}
use Rattle.gic_varied.proofs.Regrounded.{solves_with}
use Rattle.gic_varied.proofs.Resistances.{within_is_some}
use Rattle.gic_varied.proofs.Within.{varied_with, own_solves}
use Rattle.gic_varied.proofs.laws.varied_law.Goals as goal

pub returns-clause-some : goal.returns-clause-some
returns-clause-some c = within_is_some

pub returns-clause-others : goal.returns-clause-others
returns-clause-others c network stands ranges ohm volts s inside quiet solves =
    varied_with (standing_elements network stands) ranges ohm volts s inside quiet (solves_with network stands ohm volts s solves)

pub returns-clause-own : goal.returns-clause-own
returns-clause-own c network stands ranges volts s inside quiet solves =
    let standing = standing_elements network stands in
    varied_with standing ranges (λ e. e.micro_ohm) volts s inside quiet (own_solves standing volts s solves)
