use Rattle.std.proofs.Common.{refl}
use Rattle.gic_make.specs.MadeCase.{made_case}
use Rattle.gic_make.proofs.laws.worked_case_law.Goals as goal

pub returns-clause-grounds : goal.returns-clause-grounds
unfolding made_case
returns-clause-grounds c = refl

pub returns-clause-resistance : goal.returns-clause-resistance
unfolding made_case
returns-clause-resistance c = refl

pub returns-clause-line : goal.returns-clause-line
unfolding made_case
returns-clause-line c = refl
