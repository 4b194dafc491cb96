use Rattle.gic_varied.proofs.AnyGrounds.{standing_in_ranges, any_within, earthed_alike}
use Rattle.gic_varied.proofs.laws.any_grounds_law.Goals as goal

pub returns-clause-standing : goal.returns-clause-standing
returns-clause-standing c = standing_in_ranges

pub returns-clause-limits : goal.returns-clause-limits
returns-clause-limits c = any_within

pub returns-clause-earthed : goal.returns-clause-earthed
returns-clause-earthed c = earthed_alike
