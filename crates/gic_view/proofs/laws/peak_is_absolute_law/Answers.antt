use Rattle.gic_view.proofs.Greatest.{own_absolute, peak_not_negative}
use Rattle.gic_view.proofs.laws.peak_is_absolute_law.Goals as goal

pub returns-clause-not_negative : goal.returns-clause-not_negative
returns-clause-not_negative c = peak_not_negative

pub returns-clause-absolute : goal.returns-clause-absolute
returns-clause-absolute c = own_absolute
