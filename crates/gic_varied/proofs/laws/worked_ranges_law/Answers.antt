use Rattle.gic_varied.proofs.WorkedPotentials.{loop_potentials_in_range, loop_raising_parts}
use Rattle.gic_varied.proofs.laws.worked_ranges_law.Goals as goal

pub returns-clause-potentials : goal.returns-clause-potentials
returns-clause-potentials c = loop_potentials_in_range

pub returns-clause-parts : goal.returns-clause-parts
returns-clause-parts c = loop_raising_parts
