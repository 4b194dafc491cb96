use Rattle.gic_fixed.proofs.BitSigns.{below_is}
use Rattle.gic_fixed.proofs.long.on_side_of.Goals as goal

pub returns-clause-below : goal.returns-clause-below
returns-clause-below c n e = below_is c.args.far c.args.other c.requires c.ranges.other e
