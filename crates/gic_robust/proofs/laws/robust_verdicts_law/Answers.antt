use Rattle.gic_criteria.specs.Event.{threshold_of}
use Rattle.gic_worst.specs.Rows.{screen_row_at}
use Rattle.gic_robust.proofs.TrueWhateverGrounds.{verdict_true}
use Rattle.gic_robust.proofs.laws.robust_verdicts_law.Goals as goal

pub returns : goal.returns
returns c = λ v north east asked text report t inside.
    verdict_true c.verdict_law.ensures.undecided c.worst_verdict_law.ensures.below c.worst_verdict_law.ensures.reaches
    v north east (threshold_of asked.criteria.event) t (screen_row_at report.rows t) (report.right.right t inside)
