use Rattle.gic_make.proofs.ElementsOfSites.{made_sizes}
use Rattle.gic_make.proofs.NearEarth.{made_near_earth}
use Rattle.gic_make.proofs.SoundCase.{made_sound, made_rows}
use Rattle.gic_make.proofs.StandingSites.{made_nodes_earthed}
use Rattle.gic_make.proofs.laws.made_cases_law.Goals as goal

pub returns-clause-sound : goal.returns-clause-sound
returns-clause-sound c = λ seed size small least most. made_sound seed size least most

pub returns-clause-rows : goal.returns-clause-rows
returns-clause-rows c = λ seed size small least most. made_rows seed size

pub returns-clause-size : goal.returns-clause-size
returns-clause-size c = made_sizes

pub returns-clause-earthed : goal.returns-clause-earthed
returns-clause-earthed c = made_nodes_earthed

pub returns-clause-near : goal.returns-clause-near
returns-clause-near c = made_near_earth c.second_share_law.ensures.entries c.limits_law.ensures
