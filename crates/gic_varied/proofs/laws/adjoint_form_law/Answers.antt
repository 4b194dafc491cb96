use Rattle.gic_model.specs.Standing.{standing_elements}
use Rattle.gic_model.proofs.Ends.{standing_within}
use Rattle.gic_varied.proofs.AdjointEnclosed.{adjoint_enclosed}
use Rattle.gic_varied.proofs.Reciprocity.{solution_keeps}
use Rattle.gic_varied.proofs.Regrounded.{solves_with}
use Rattle.gic_varied.proofs.Shared.{off_by_adjoint_power}
use Rattle.gic_varied.proofs.laws.adjoint_form_law.Goals as goal

pub returns-clause-off : goal.returns-clause-off
returns-clause-off c network stands ranges ohm volts weights reference varied adjoint limits quiet light refers varies adjoins of_one =
    let standing = standing_elements network stands in
    off_by_adjoint_power network.nodes standing (standing_within network stands limits) ranges volts weights reference varied adjoint quiet light
    (solution_keeps standing ohm volts reference (solves_with network stands ohm volts reference refers)) varies adjoins of_one

pub returns-clause-holds : goal.returns-clause-holds
returns-clause-holds c network stands ranges ohm volts weights reference varied over unit products own limits earthed quiet light least_inside inside some_unit refers varies holds own_holds =
    adjoint_enclosed network stands ranges ohm volts weights reference varied over unit products own limits earthed quiet light least_inside inside some_unit
    (solves_with network stands ohm volts reference refers) varies holds own_holds
