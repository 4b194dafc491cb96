use Rattle.gic_base.proofs.Each.{weaker}
use Rattle.gic_model.specs.Standing.{standing_elements, elements_at}
use Rattle.gic_model.specs.Limits.{IsElementWithin}
use Rattle.gic_model.proofs.Ends.{standing_within, within_at, ohms_at_node}
use Rattle.gic_model.proofs.Settled.{rounded_up, rounded_twice, IsSmall, small-within}
use Rattle.gic_model.proofs.laws.diagonal_law.Goals as goal

pub returns-clause-at_least : goal.returns-clause-at_least
returns-clause-at_least c network stands k limits =
    let standing = standing_elements network stands in
    rounded_up (elements_at standing k) (ohms_at_node network.nodes standing k (standing_within network stands limits))

pub returns-clause-at_most : goal.returns-clause-at_most
returns-clause-at_most c network stands k limits =
    let standing = standing_elements network stands in
    rounded_twice (elements_at standing k)
    (weaker (λ p. IsElementWithin network.nodes p.1) IsSmall (λ p h. small-within network.nodes p h) (elements_at standing k) (within_at network.nodes standing k (standing_within network stands limits)))
