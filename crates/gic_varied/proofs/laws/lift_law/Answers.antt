use Rattle.gic_model.specs.Standing.{standing_elements}
use Rattle.gic_model.proofs.Ends.{standing_within}
use Rattle.gic_varied.proofs.Regrounded.{solves_with}
use Rattle.gic_varied.proofs.Lifted.{raised, lowered}
use Rattle.gic_varied.proofs.laws.lift_law.Goals as goal

pub returns-clause-above : goal.returns-clause-above
returns-clause-above c network stands ranges ohm volts lifts reference varied lift k limits earthed quiet inside refers varies are_lifts raises live =
    let standing = standing_elements network stands in
    raised network.nodes standing (standing_within network stands limits) earthed ranges ohm volts lifts reference varied lift inside quiet
    (solves_with network stands ohm volts reference refers) varies are_lifts (solves_with network stands (λ e. (ranges e).most) lifts lift raises) k live

pub returns-clause-below : goal.returns-clause-below
returns-clause-below c network stands ranges ohm volts lifts reference varied lift k limits earthed quiet inside refers varies are_lifts raises live =
    let standing = standing_elements network stands in
    lowered network.nodes standing (standing_within network stands limits) earthed ranges ohm volts lifts reference varied lift inside quiet
    (solves_with network stands ohm volts reference refers) varies are_lifts (solves_with network stands (λ e. (ranges e).most) lifts lift raises) k live
