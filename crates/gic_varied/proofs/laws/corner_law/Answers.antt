use Rattle.gic_varied.proofs.AtCorners.{corners_are_of_ranges}
use Rattle.gic_varied.proofs.laws.corner_law.Goals as goal

pub returns : goal.returns
returns c = corners_are_of_ranges
