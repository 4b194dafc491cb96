use Rattle.gic_study_text.proofs.StudyDetermined.{study_determined}
use Rattle.gic_study_text.proofs.laws.text_determines_study_law.Goals as goal

pub returns : goal.returns
returns c = study_determined
