use Rattle.gic_effective.proofs.WithoutEffect.{without_effect}
use Rattle.gic_effective.proofs.laws.no_effect_law.Goals as goal

pub returns : goal.returns
returns c = without_effect
