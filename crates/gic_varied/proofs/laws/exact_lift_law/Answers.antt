use Rattle.gic_model.specs.Standing.{standing_elements}
use Rattle.gic_model.proofs.Ends.{standing_within}
use Rattle.gic_varied.proofs.ExactlyLifted.{exactly_raised, exactly_lowered}
use Rattle.gic_varied.proofs.Regrounded.{solves_with}
use Rattle.gic_varied.proofs.laws.exact_lift_law.Goals as goal

pub returns-clause-above : goal.returns-clause-above
returns-clause-above c network stands ranges volts reference varied raising k limits earthed quiet inside refers exact over varies live =
    let standing = standing_elements network stands in
    exactly_raised network.nodes standing (standing_within network stands limits) earthed ranges volts reference varied raising inside quiet
    (solves_with network stands (λ e. (ranges e).least) volts reference refers) varies exact over k live

pub returns-clause-below : goal.returns-clause-below
returns-clause-below c network stands ranges volts reference varied lowering k limits earthed quiet inside refers exact over varies live =
    let standing = standing_elements network stands in
    exactly_lowered network.nodes standing (standing_within network stands limits) earthed ranges volts reference varied lowering inside quiet
    (solves_with network stands (λ e. (ranges e).least) volts reference refers) varies exact over k live
