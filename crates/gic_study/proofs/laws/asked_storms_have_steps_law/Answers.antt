use Rattle.gic_study.proofs.AskedStorms.{asked_stepped}
use Rattle.gic_study.proofs.laws.asked_storms_have_steps_law.Goals as goal

pub returns : goal.returns
returns c = asked_stepped c.accepted_storms_have_steps_law.ensures
