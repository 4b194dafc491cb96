use Rattle.gic_induce.proofs.Linear.{item_volts_linear, volts_linear}
use Rattle.gic_induce.proofs.laws.linearity_law.Goals as goal

pub returns : goal.returns
returns c = record { items = item_volts_linear; elements = volts_linear }
