use Rattle.gic_varied.proofs.Bounded.{modest_tolerances, varied_bounded}
use Rattle.gic_varied.proofs.laws.varied_bound_law.Goals as goal

pub returns-clause-modest : goal.returns-clause-modest
returns-clause-modest c = modest_tolerances

pub returns-clause-bounded : goal.returns-clause-bounded
returns-clause-bounded c = varied_bounded
