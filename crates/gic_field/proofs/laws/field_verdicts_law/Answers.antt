use Rattle.gic_criteria.specs.Event.{threshold_of}
use Rattle.gic_field.proofs.TrueVerdicts.{right_absolutes, true_verdicts, undecided_near}
use Rattle.gic_field.proofs.laws.field_verdicts_law.Goals as goal

pub returns-clause-absolutes : goal.returns-clause-absolutes
returns-clause-absolutes c = λ case standing volts q text report.
    right_absolutes case standing volts q.criteria.width report.view report.right report.narrow

pub returns-clause-verdicts : goal.returns-clause-verdicts
returns-clause-verdicts c = λ case standing volts q text report.
    true_verdicts case standing volts (threshold_of q.criteria.event) report.view
    c.verdict_law.ensures.below c.verdict_law.ensures.reaches c.verdict_law.ensures.undecided report.right

pub returns-clause-near : goal.returns-clause-near
returns-clause-near c = λ case standing volts q text report.
    undecided_near case standing volts (threshold_of q.criteria.event) q.criteria.width report.view
    c.verdict_law.ensures.undecided report.right report.narrow
