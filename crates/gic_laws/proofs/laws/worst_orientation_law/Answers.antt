use Rattle.gic_laws.proofs.Superposed.{most, reached}
use Rattle.gic_laws.proofs.laws.worst_orientation_law.Goals as goal

pub returns-clause-most : goal.returns-clause-most
returns-clause-most c = λ case network stands strength north east parts to_north to_east s t within_limits earthed solved within.
    most c.linearity_law.ensures.elements c.superposition_law.ensures case network stands strength north east parts to_north to_east s
    (λ volts. c.agreement_law.ensures network stands volts within_limits earthed) solved t
    c.greatest_over_all_orientations_law.ensures.most within

pub returns-clause-reached : goal.returns-clause-reached
returns-clause-reached c = λ case network stands strength north east parts to_north to_east s t within_limits earthed solved aligned.
    reached c.linearity_law.ensures.elements c.superposition_law.ensures case network stands strength north east parts to_north to_east s
    (λ volts. c.agreement_law.ensures network stands volts within_limits earthed) solved t aligned
