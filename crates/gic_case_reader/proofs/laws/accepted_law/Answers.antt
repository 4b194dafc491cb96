use Rattle.gic_case_reader.proofs.Sound.{accepted_sound}
use Rattle.gic_case_reader.proofs.laws.accepted_law.Goals as goal

pub returns : goal.returns
returns c = accepted_sound
