use Rattle.gic_study.proofs.Ended.{unmet_needs_are_answered}
use Rattle.gic_study.proofs.laws.unmet_needs_are_answered_law.Goals as goal

pub returns : goal.returns
returns c = unmet_needs_are_answered c.answers_of_files_law.ensures
