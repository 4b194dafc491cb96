use Rattle.gic_varied.proofs.SumsAndSizes.{sums_give_sizes}
use Rattle.gic_varied.proofs.laws.sizes_law.Goals as goal

pub returns : goal.returns
returns c = sums_give_sizes
