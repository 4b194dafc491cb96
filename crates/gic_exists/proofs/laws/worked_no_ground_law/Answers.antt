use Rattle.gic_exists.proofs.WorkedNetworks.{level_solved, no_ground_not_earthed}
use Rattle.gic_exists.proofs.laws.worked_no_ground_law.Goals as goal

pub returns-clause-premise : goal.returns-clause-premise
returns-clause-premise c = no_ground_not_earthed

pub returns-clause-solutions : goal.returns-clause-solutions
returns-clause-solutions c = level_solved
