use Rattle.gic_laws.proofs.TrueDwells.{true_dwells}
use Rattle.gic_laws.proofs.laws.dwells_of_studies_law.Goals as goal

pub returns : goal.returns
returns c = true_dwells c.monitors_bound_the_exact_currents_law.ensures.certain c.monitors_bound_the_exact_currents_law.ensures.possible
