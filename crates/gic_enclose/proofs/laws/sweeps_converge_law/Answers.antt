use Rattle.gic_enclose.proofs.Near.{first_is_near, brings_nearer, near_settled}
use Rattle.gic_enclose.proofs.laws.sweeps_converge_law.Goals as goal

pub returns : goal.returns
returns c = record { first = first_is_near; next = brings_nearer; last = near_settled }
