use Rattle.gic_model.specs.Standing.{standing_elements}
use Rattle.gic_model.proofs.Ends.{standing_within}
use Rattle.gic_varied.proofs.Regrounded.{solves_with}
use Rattle.gic_varied.proofs.Intervals.{product_holds, varied_holds, lift_lifts}
use Rattle.gic_varied.proofs.Enclosed.{enclosed}
use Rattle.gic_varied.proofs.ExactEnclosure.{is_in}
use Rattle.gic_varied.proofs.laws.enclosure_law.Goals as goal

pub returns-clause-holds : goal.returns-clause-holds
returns-clause-holds c network stands ranges ohm volts weights reference varied adjoint over unit products own limits quiet light inside some_unit refers varies adjoins holds own_holds =
    let standing = standing_elements network stands in
    enclosed network.nodes standing (standing_within network stands limits) ranges ohm volts weights reference varied adjoint over unit products quiet light inside some_unit
    (solves_with network stands ohm volts reference refers) varies (solves_with network stands ohm weights adjoint adjoins) holds own own_holds

pub returns-clause-products : goal.returns-clause-products
returns-clause-products c = product_holds

pub returns-clause-potentials : goal.returns-clause-potentials
returns-clause-potentials c = varied_holds

pub returns-clause-lifts : goal.returns-clause-lifts
returns-clause-lifts c = lift_lifts

pub returns-clause-exact : goal.returns-clause-exact
returns-clause-exact c network stands ranges volts weights lower raise reference varied lowering raising adjoint limits earthed quiet light inside refers varies lowers raises lowering_solves raising_solves adjoins =
    is_in network.nodes (standing_elements network stands) (standing_within network stands limits) earthed ranges volts weights lower raise reference varied lowering raising adjoint quiet light inside
    (solves_with network stands (λ e. (ranges e).least) volts reference refers) varies lowers raises
    (solves_with network stands (λ e. (ranges e).most) lower lowering lowering_solves) (solves_with network stands (λ e. (ranges e).most) raise raising raising_solves)
    (solves_with network stands (λ e. (ranges e).least) weights adjoint adjoins)
