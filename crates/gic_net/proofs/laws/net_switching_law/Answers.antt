use Rattle.gic_net.proofs.Runs.{network_stays, items_stand, elements_stand}
use Rattle.gic_net.proofs.laws.net_switching_law.Goals as goal

pub returns-clause-network : goal.returns-clause-network
returns-clause-network c = network_stays

pub returns-clause-items : goal.returns-clause-items
returns-clause-items c = items_stand

pub returns-clause-elements : goal.returns-clause-elements
returns-clause-elements c = elements_stand
