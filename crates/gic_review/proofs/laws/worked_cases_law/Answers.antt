use Rattle.std.proofs.Common.{refl}
use Rattle.gic_winding.specs.ElementList.{elements_of}
use Rattle.gic_review.proofs.laws.worked_cases_law.Goals as goal

pub returns-clause-ungrounded : goal.returns-clause-ungrounded
unfolding elements_of
returns-clause-ungrounded c = refl

pub returns-clause-turned : goal.returns-clause-turned
unfolding elements_of
returns-clause-turned c = refl

pub returns-clause-parted : goal.returns-clause-parted
unfolding elements_of
returns-clause-parted c = refl

pub returns-clause-levels : goal.returns-clause-levels
unfolding elements_of
returns-clause-levels c = refl

pub returns-clause-third : goal.returns-clause-third
unfolding elements_of
returns-clause-third c = refl

pub returns-clause-alphas : goal.returns-clause-alphas
unfolding elements_of
returns-clause-alphas c = refl
