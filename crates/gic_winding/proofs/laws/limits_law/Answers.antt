use Rattle.gic_winding.proofs.Limits.{within_limits}
use Rattle.gic_winding.proofs.laws.limits_law.Goals as goal

pub returns : goal.returns
returns c = within_limits
