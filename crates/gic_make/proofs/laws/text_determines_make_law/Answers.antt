use Rattle.gic_make.proofs.MakeDetermined.{report_determined}
use Rattle.gic_make.proofs.laws.text_determines_make_law.Goals as goal

pub returns : goal.returns
returns c = report_determined
