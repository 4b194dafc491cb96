use Rattle.gic_criteria.proofs.Judged.{below_under, reaches_at_least, worst_under, worst_at_least}
use Rattle.gic_criteria.proofs.laws.worst_verdict_law.Goals as goal

pub returns-clause-below : goal.returns-clause-below
returns-clause-below c lo hi n d m e threshold high_volts has_effect some_d some_e order below encloses =
    worst_under lo hi n d m e threshold some_d some_e order (below_under lo hi threshold high_volts has_effect below) encloses

pub returns-clause-reaches : goal.returns-clause-reaches
returns-clause-reaches c lo hi n d m e threshold high_volts has_effect reaches encloses =
    worst_at_least lo hi n d m e threshold (reaches_at_least lo hi threshold high_volts has_effect reaches) encloses
