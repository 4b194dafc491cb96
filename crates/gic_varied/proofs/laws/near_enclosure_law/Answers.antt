use Rattle.gic_varied.proofs.NearEnclosure.{enclosures_are_near}
use Rattle.gic_varied.proofs.laws.near_enclosure_law.Goals as goal

pub returns : goal.returns
returns c = record { near = enclosures_are_near }
