use Rattle.gic_winding.proofs.Limits.{degrees_count}
use Rattle.gic_winding.proofs.laws.degree_law.Goals as goal

pub returns : goal.returns
returns c = degrees_count
