use Rattle.gic_words.proofs.Given.{required_are_given}
use Rattle.gic_words.proofs.laws.required_given_law.Goals as goal

pub returns : goal.returns
returns c = required_are_given
