use Rattle.gic_study.proofs.Ended.{refused_certificates_are_answered}
use Rattle.gic_study.proofs.laws.refused_certificates_are_answered_law.Goals as goal

pub returns : goal.returns
returns c = refused_certificates_are_answered c.answers_of_files_law.ensures c.accepted_is_not_refused_law.ensures
