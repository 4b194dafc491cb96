use Rattle.gic_outage.proofs.OutageDetermined.{report_determined}
use Rattle.gic_outage.proofs.laws.text_determines_outage_law.Goals as goal

pub returns : goal.returns
returns c = report_determined
