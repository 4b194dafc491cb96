use Rattle.std.proofs.Common.{[], ◌∷◌, refl}
use Rattle.gic_model.proofs.laws.worked_neutral_law.Goals as goal

pub returns-clause-earthed : goal.returns-clause-earthed
returns-clause-earthed c = record { live = refl; over = 5 ∷ 0 ∷ []; chain = (refl, (refl, refl)) }
