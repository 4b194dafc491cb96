use Rattle.gic_laws.proofs.TrueEarthings.{true_earthings}
use Rattle.gic_laws.proofs.laws.earthings_of_studies_law.Goals as goal

pub returns : goal.returns
returns c = λ inputs detail plans text sound. true_earthings c.monitors_bound_the_exact_currents_law.ensures.range inputs detail plans text
