use Rattle.gic_varied.proofs.WorkedBounds.{loop_bounds}
use Rattle.gic_varied.proofs.laws.worked_grounds_law.Goals as goal

pub returns-clause-bounds : goal.returns-clause-bounds
returns-clause-bounds c = loop_bounds
