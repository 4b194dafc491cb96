use Rattle.gic_study.proofs.EachMode.{texts_tell_modes}
use Rattle.gic_study.proofs.laws.texts_tell_modes_law.Goals as goal

pub returns : goal.returns
returns c = texts_tell_modes
