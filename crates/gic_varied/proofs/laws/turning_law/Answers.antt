use Rattle.gic_varied.proofs.RaisingParts.{found_no_less, found_no_more}
use Rattle.gic_varied.proofs.laws.turning_law.Goals as goal

pub returns-clause-greatest : goal.returns-clause-greatest
returns-clause-greatest c network stands ranges parts volts weights varied limits earthed quiet light least_inside raising varies =
    found_no_less network stands ranges parts volts weights varied limits earthed quiet light least_inside varies raising

pub returns-clause-least : goal.returns-clause-least
returns-clause-least c network stands ranges parts volts weights varied limits earthed quiet light least_inside lowering varies =
    found_no_more network stands ranges parts volts weights varied limits earthed quiet light least_inside varies lowering
