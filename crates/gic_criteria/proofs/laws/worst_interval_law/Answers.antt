use Rattle.gic_criteria.proofs.Determined.{worst_determined, worst_of_zero, worst_about_zero}
use Rattle.gic_criteria.proofs.laws.worst_interval_law.Goals as goal

pub returns-clause-determined : goal.returns-clause-determined
returns-clause-determined c = worst_determined

pub returns-clause-zeroed : goal.returns-clause-zeroed
returns-clause-zeroed c = worst_of_zero

pub returns-clause-about_zero : goal.returns-clause-about_zero
returns-clause-about_zero c = worst_about_zero
