use Rattle.gic_headline.proofs.Runs.{each_run_keeps_the_headline}
use Rattle.gic_headline.proofs.laws.program_headline_law.Goals as goal

pub returns : goal.returns
returns c = each_run_keeps_the_headline c.headline_law.ensures
