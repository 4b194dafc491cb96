use Rattle.gic_criteria.proofs.Squares.{orientations}
use Rattle.gic_criteria.proofs.laws.greatest_over_all_orientations_law.Goals as goal

pub returns-clause-most : goal.returns-clause-most
returns-clause-most _ a b c s = orientations a b c s
