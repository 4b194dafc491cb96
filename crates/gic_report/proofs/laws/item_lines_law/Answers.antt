use Rattle.gic_report.proofs.LinePlaces.{lines_show_places}
use Rattle.gic_report.proofs.laws.item_lines_law.Goals as goal

pub returns : goal.returns
returns c = lines_show_places
