use Rattle.std.specs.Prelude.{codes}
use Rattle.gic_monitor.specs.LossText.{volt_factors, table_factors}
use Rattle.gic_monitor.proofs.GreatestOfSteps.{losses_bounded}
use Rattle.gic_monitor.proofs.laws.losses_are_bounded_law.Goals as goal

pub returns-clause-by_volts : goal.returns-clause-by_volts
returns-clause-by_volts c = λ scale roster. losses_bounded (codes "loss") (volt_factors scale roster)

pub returns-clause-by_table : goal.returns-clause-by_table
returns-clause-by_table c = λ table roster. losses_bounded (codes "table") (table_factors table roster)
