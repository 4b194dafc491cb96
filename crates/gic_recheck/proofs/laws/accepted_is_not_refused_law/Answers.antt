use Rattle.gic_recheck.proofs.Refusing.{accepted_is_not_refused}
use Rattle.gic_recheck.proofs.laws.accepted_is_not_refused_law.Goals as goal

pub returns : goal.returns
returns c = accepted_is_not_refused
