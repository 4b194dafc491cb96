use Rattle.gic_outage.proofs.Follows.{greatest_enclosed, no_wider, no_none, verdicts_true, each_verdict_true, undecided_near, undecided_near_over}
use Rattle.gic_outage.proofs.laws.right_outages_law.Goals as goal

pub returns-clause-enclosed : goal.returns-clause-enclosed
returns-clause-enclosed c = greatest_enclosed

pub returns-clause-narrow : goal.returns-clause-narrow
returns-clause-narrow c = no_wider

pub returns-clause-none : goal.returns-clause-none
returns-clause-none c = no_none

pub returns-clause-verdicts : goal.returns-clause-verdicts
returns-clause-verdicts c = verdicts_true c.verdict_law.ensures.undecided c.worst_verdict_law.ensures.below c.worst_verdict_law.ensures.reaches

pub returns-clause-each_verdict : goal.returns-clause-each_verdict
returns-clause-each_verdict c = each_verdict_true c.verdict_law.ensures.undecided c.worst_verdict_law.ensures.below c.worst_verdict_law.ensures.reaches

pub returns-clause-undecided_most : goal.returns-clause-undecided_most
returns-clause-undecided_most c = undecided_near

pub returns-clause-near : goal.returns-clause-near
returns-clause-near c = undecided_near_over c.verdict_law.ensures.undecided c.worst_verdict_law.ensures.below c.worst_verdict_law.ensures.reaches
