use Rattle.gic_varied.proofs.OtherGrounds.{earthed_with, bound_with, within_with, ranges_within}
use Rattle.gic_varied.proofs.laws.other_grounds_law.Goals as goal

pub returns-clause-earthed : goal.returns-clause-earthed
returns-clause-earthed c = earthed_with

pub returns-clause-bound : goal.returns-clause-bound
returns-clause-bound c = bound_with

pub returns-clause-within : goal.returns-clause-within
returns-clause-within c = within_with

pub returns-clause-limits : goal.returns-clause-limits
returns-clause-limits c = ranges_within
