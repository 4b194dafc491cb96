use Rattle.gic_outage.proofs.Outages.{idle_is, standing_others, comes_back, opened_last}
use Rattle.gic_outage.proofs.laws.outage_law.Goals as goal

pub returns-clause-idle : goal.returns-clause-idle
returns-clause-idle c = idle_is

pub returns-clause-others : goal.returns-clause-others
returns-clause-others c = standing_others

pub returns-clause-back : goal.returns-clause-back
returns-clause-back c = comes_back

pub returns-clause-last : goal.returns-clause-last
returns-clause-last c = opened_last
