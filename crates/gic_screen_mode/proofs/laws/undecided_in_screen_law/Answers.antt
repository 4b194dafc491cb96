use Rattle.gic_criteria.specs.Event.{threshold_of}
use Rattle.gic_worst.specs.Rows.{screen_row_at}
use Rattle.gic_screen_mode.proofs.TrueVerdicts.{undecided_near}
use Rattle.gic_screen_mode.proofs.laws.undecided_in_screen_law.Goals as goal

pub returns : goal.returns
returns c = λ case standing north east criteria text report t inside.
    undecided_near c.verdict_law.ensures.undecided case standing north east (threshold_of criteria.event) criteria.width t (screen_row_at report.rows t).worst (report.right.right t inside).at_worst
