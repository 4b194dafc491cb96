use Rattle.gic_view.proofs.Greatest.{peak_narrow}
use Rattle.gic_view.proofs.laws.peak_is_narrow_law.Goals as goal

pub returns-clause-peak : goal.returns-clause-peak
returns-clause-peak c = peak_narrow
