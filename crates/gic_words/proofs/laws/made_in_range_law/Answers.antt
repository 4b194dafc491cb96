use Rattle.gic_words.proofs.MadeNumbers.{made_in_range}
use Rattle.gic_words.proofs.laws.made_in_range_law.Goals as goal

pub returns : goal.returns
returns c = made_in_range
