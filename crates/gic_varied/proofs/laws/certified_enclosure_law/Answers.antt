use Rattle.gic_varied.proofs.Certain.{certain, grains_hold}
use Rattle.gic_varied.proofs.laws.certified_enclosure_law.Goals as goal

pub returns-clause-holds : goal.returns-clause-holds
returns-clause-holds c network stands ranges corner given units ends varied limits corner_limits most_limits earthed inside some_stray certified varies =
    certain network stands ranges corner given units ends varied limits earthed inside some_stray certified varies corner_limits most_limits

pub returns-clause-grains : goal.returns-clause-grains
returns-clause-grains c = grains_hold
