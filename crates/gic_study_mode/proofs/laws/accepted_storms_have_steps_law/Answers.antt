use Rattle.gic_study_mode.proofs.AcceptedStorms.{accepted_steps}
use Rattle.gic_study_mode.proofs.laws.accepted_storms_have_steps_law.Goals as goal

pub returns : goal.returns
returns c = accepted_steps
