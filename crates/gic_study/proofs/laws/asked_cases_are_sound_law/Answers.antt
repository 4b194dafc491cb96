use Rattle.gic_study.proofs.AskedSound.{asked_sound}
use Rattle.gic_study.proofs.laws.asked_cases_are_sound_law.Goals as goal

pub returns : goal.returns
returns c = asked_sound c.made_in_range_law.ensures c.accepted_law.ensures c.made_cases_law.ensures.sound
