use Rattle.gic_recheck.proofs.PassingText.{passing_text_is_accepted}
use Rattle.gic_recheck.proofs.laws.passing_text_is_accepted_law.Goals as goal

pub returns : goal.returns
returns c = passing_text_is_accepted c.text_law.ensures.back
