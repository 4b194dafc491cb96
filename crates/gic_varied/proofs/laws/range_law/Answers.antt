use Rattle.gic_varied.proofs.OwnRanges.{holds_tolerance, own_grounds}
use Rattle.gic_varied.proofs.laws.range_law.Goals as goal

pub returns-clause-tolerance : goal.returns-clause-tolerance
returns-clause-tolerance c = holds_tolerance

pub returns-clause-own : goal.returns-clause-own
returns-clause-own c = own_grounds
