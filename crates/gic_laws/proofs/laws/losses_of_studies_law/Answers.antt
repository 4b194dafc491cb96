use Rattle.gic_laws.proofs.CommonDenominator.{common_currents}
use Rattle.gic_laws.proofs.ShownUnits.{shown_units}
use Rattle.gic_laws.proofs.TrueLosses.{true_losses}
use Rattle.gic_laws.proofs.laws.losses_of_studies_law.Goals as goal

pub returns-clause-exist : goal.returns-clause-exist
returns-clause-exist c = common_currents

pub returns-clause-shown : goal.returns-clause-shown
returns-clause-shown c = shown_units

pub returns-clause-lines : goal.returns-clause-lines
returns-clause-lines c = true_losses c.losses_are_bounded_law.ensures.by_volts c.losses_are_bounded_law.ensures.by_table
