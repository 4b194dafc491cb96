use Rattle.gic_study.proofs.Statuses.{statuses_say}
use Rattle.gic_study.proofs.laws.statuses_say_law.Goals as goal

pub returns : goal.returns
returns c = statuses_say
