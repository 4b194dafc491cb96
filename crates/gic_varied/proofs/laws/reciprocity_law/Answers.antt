use Rattle.std.proofs.Common.{pos}
use Rattle.gic_model.specs.Standing.{standing_elements}
use Rattle.gic_model.proofs.Ends.{standing_within}
use Rattle.gic_varied.specs.Reciprocal.{current_by_weights, all_stray_power}
use Rattle.gic_varied.proofs.ListedWeights.{listed_count}
use Rattle.gic_varied.proofs.Regrounded.{solves_with}
use Rattle.gic_varied.proofs.Reciprocity.{reciprocal, reciprocal_alone, varied_keeps, off_by}
use Rattle.gic_varied.proofs.Strays.{stray_between}
use Rattle.gic_varied.proofs.laws.reciprocity_law.Goals as goal

pub returns-clause-varied : goal.returns-clause-varied
returns-clause-varied c network stands ranges ohm volts weights varied adjoint limits quiet light varies solves =
    let standing = standing_elements network stands in
    reciprocal network.nodes standing (standing_within network stands limits) ohm volts weights varied adjoint quiet light
    (varied_keeps standing ranges volts varied varies) (solves_with network stands ohm weights adjoint solves)

pub returns-clause-own : goal.returns-clause-own
returns-clause-own c network stands ohm volts weights reference adjoint limits quiet light refers solves =
    let standing = standing_elements network stands in
    reciprocal_alone network.nodes standing (standing_within network stands limits) ohm volts weights reference adjoint quiet light
    (solves_with network stands ohm volts reference refers) (solves_with network stands ohm weights adjoint solves)

pub returns-clause-off : goal.returns-clause-off
returns-clause-off c network stands ranges ohm volts weights reference varied adjoint limits quiet light refers varies solves =
    let standing = standing_elements network stands in
    let within = standing_within network stands limits in
    let adjoins = solves_with network stands ohm weights adjoint solves in
    off_by (pos adjoint.denominator) (pos reference.denominator) (pos varied.denominator)
    (current_by_weights standing weights varied) (current_by_weights standing weights reference) (current_by_weights standing volts adjoint) (all_stray_power standing varied adjoint)
    (reciprocal network.nodes standing within ohm volts weights varied adjoint quiet light (varied_keeps standing ranges volts varied varies) adjoins)
    (reciprocal_alone network.nodes standing within ohm volts weights reference adjoint quiet light (solves_with network stands ohm volts reference refers) adjoins)

pub returns-clause-listed : goal.returns-clause-listed
returns-clause-listed c = listed_count

pub returns-clause-bounded : goal.returns-clause-bounded
returns-clause-bounded c = stray_between
