use Rattle.gic_ask.proofs.OfWords.{usage_is_of_words}
use Rattle.gic_ask.proofs.laws.usage_is_of_words_law.Goals as goal

pub returns : goal.returns
returns c = usage_is_of_words
