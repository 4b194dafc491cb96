use Rattle.gic_robust.proofs.RobustDetermined.{report_determined}
use Rattle.gic_robust.proofs.laws.text_determines_robust_law.Goals as goal

pub returns : goal.returns
returns c = report_determined
