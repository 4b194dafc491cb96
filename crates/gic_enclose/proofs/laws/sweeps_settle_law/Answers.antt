use Rattle.gic_enclose.proofs.Near.{sweeps_settle}
use Rattle.gic_enclose.proofs.laws.sweeps_settle_law.Goals as goal

pub returns : goal.returns
returns c = sweeps_settle
