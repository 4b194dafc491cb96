use Rattle.std.proofs.Common.{[], ◌∷◌, refl}
use Rattle.gic_model.proofs.laws.worked_loop_law.Goals as goal

pub returns-clause-earthed : goal.returns-clause-earthed
returns-clause-earthed c = record { live = refl; over = 0 ∷ []; chain = (refl, refl) }
