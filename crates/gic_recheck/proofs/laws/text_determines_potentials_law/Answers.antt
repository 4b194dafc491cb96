use Rattle.gic_recheck.proofs.Determined.{potentials_determined}
use Rattle.gic_recheck.proofs.laws.text_determines_potentials_law.Goals as goal

pub returns : goal.returns
returns c = potentials_determined
