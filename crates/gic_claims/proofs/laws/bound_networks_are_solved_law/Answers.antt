use Rattle.gic_claims.proofs.laws.bound_networks_are_solved_law.Goals as goal

pub returns : goal.returns
returns c = λ network stands v volts limits vector.
    c.existence_law.ensures network stands volts limits (c.bound_networks_are_earthed_law.ensures network stands v limits vector)
