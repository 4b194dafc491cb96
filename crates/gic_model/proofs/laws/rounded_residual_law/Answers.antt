use Rattle.gic_model.specs.Standing.{standing_elements, elements_at, leaving}
use Rattle.gic_model.specs.Guess.{guessed_current, part_times_ohms}
use Rattle.gic_model.proofs.Ends.{standing_within, ohms_at_node}
use Rattle.gic_model.proofs.RoundedResidual.{floors_hold, ceils_hold, ceils-floors}
use Rattle.gic_model.proofs.laws.rounded_residual_law.Goals as goal

pub returns-clause-holds : goal.returns-clause-holds
returns-clause-holds c network stands volts x k limits =
    let standing = standing_elements network stands in
    let ohms = ohms_at_node network.nodes standing k (standing_within network stands limits) in
    record {
      above_lo = floors_hold (λ p. leaving k p.1 (guessed_current volts x p)) (elements_at standing k) ohms;
      below_hi = ceils_hold (λ p. leaving k p.1 (guessed_current volts x p)) (elements_at standing k) ohms;
    }

pub returns-clause-narrow : goal.returns-clause-narrow
returns-clause-narrow c network stands volts x k limits =
    let standing = standing_elements network stands in
    ceils-floors (part_times_ohms volts x k) (elements_at standing k) (ohms_at_node network.nodes standing k (standing_within network stands limits))
