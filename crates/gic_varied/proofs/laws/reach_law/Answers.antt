use Rattle.gic_varied.proofs.LiftReach.{lifts_reach}
use Rattle.gic_varied.proofs.ListedWeights.{listed_add_up}
use Rattle.gic_varied.proofs.PotentialReach.{potentials_reach}
use Rattle.gic_varied.proofs.laws.reach_law.Goals as goal

pub returns-clause-lifts : goal.returns-clause-lifts
returns-clause-lifts c = lifts_reach

pub returns-clause-potentials : goal.returns-clause-potentials
returns-clause-potentials c = potentials_reach

pub returns-clause-listed : goal.returns-clause-listed
returns-clause-listed c = listed_add_up
