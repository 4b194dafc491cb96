use Rattle.gic_study.proofs.Certified.{certified_is_accepted}
use Rattle.gic_study.proofs.laws.certified_is_accepted_law.Goals as goal

pub returns : goal.returns
returns c = certified_is_accepted c.passing_text_is_accepted_law.ensures
