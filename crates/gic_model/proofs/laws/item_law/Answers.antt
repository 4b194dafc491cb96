use Rattle.gic_model.proofs.Items.{one_where_equal}
use Rattle.gic_model.proofs.laws.item_law.Goals as goal

pub returns : goal.returns
returns c = one_where_equal
