use Rattle.gic_superpose.proofs.Linear.{potential_linear, current_linear, weighted_linear}
use Rattle.gic_superpose.proofs.laws.linear_views_law.Goals as goal

pub returns : goal.returns
returns c = record { potentials = potential_linear; currents = current_linear; weighted = weighted_linear }
