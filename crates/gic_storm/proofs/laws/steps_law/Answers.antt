use Rattle.gic_storm.proofs.Cuts.{concat_steps}
use Rattle.gic_storm.proofs.Rising.{times_rise_law, rows_alone}
use Rattle.gic_storm.proofs.StepRows.{steps_are}
use Rattle.gic_storm.proofs.laws.steps_law.Goals as goal

pub returns-clause-each_row_once : goal.returns-clause-each_row_once
returns-clause-each_row_once c = concat_steps

pub returns-clause-one_time : goal.returns-clause-one_time
returns-clause-one_time c = steps_are

pub returns-clause-times_rise : goal.returns-clause-times_rise
returns-clause-times_rise c = times_rise_law

pub returns-clause-rows_alone : goal.returns-clause-rows_alone
returns-clause-rows_alone c = rows_alone
