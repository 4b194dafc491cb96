use Rattle.gic_superpose.proofs.Enclosing.{superposed_held}
use Rattle.gic_superpose.proofs.laws.superposed_intervals_law.Goals as goal

pub returns : goal.returns
returns c network stands quantity over fields north east volts row limits earthed is_linear made held = superposed_held network stands quantity over fields north east row limits earthed is_linear held volts made
