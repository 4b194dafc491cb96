use Rattle.gic_model.proofs.LastRow.{last_row}
use Rattle.gic_model.proofs.laws.last_row_law.Goals as goal

pub returns : goal.returns
returns c = last_row
