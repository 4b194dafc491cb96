use Rattle.gic_effective.proofs.Lines.{all_of_lines}
use Rattle.gic_effective.proofs.laws.line_items_law.Goals as goal

pub returns : goal.returns
returns c = all_of_lines
