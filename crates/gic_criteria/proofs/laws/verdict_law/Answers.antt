use Rattle.std.proofs.Common.{unsigned_abs}
use Rattle.gic_criteria.proofs.Judged.{below_under, under_end}
use Rattle.gic_criteria.proofs.laws.verdict_law.Goals as goal

pub returns-clause-below : goal.returns-clause-below
returns-clause-below c lo hi n d threshold high_volts has_effect some below h =
    under_end hi (unsigned_abs n) d threshold some (below_under lo hi threshold high_volts has_effect below) h
