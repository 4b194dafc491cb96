use Rattle.gic_varied.proofs.Fractions.{other_solution}
use Rattle.gic_varied.proofs.laws.one_network_law.Goals as goal

pub returns : goal.returns
returns c network stands ranges volts others one limits earthed least_inside quiet varies =
    other_solution network stands ranges limits earthed least_inside volts others one quiet varies
