use Rattle.gic_model.specs.Standing.{stands_after}
use Rattle.gic_winding.specs.ElementList.{elements_of}
use Rattle.gic_claims.specs.Claims.{volts_in_fields}
use Rattle.gic_claims.proofs.laws.solutions_exist_law.Goals as goal

pub returns-clause-exist : goal.returns-clause-exist
returns-clause-exist c = λ bytes case rows fields accepted earthed.
    c.existence_law.ensures (elements_of case) (stands_after rows) (volts_in_fields case fields) (c.limits_law.ensures case (c.accepted_law.ensures bytes case accepted)) earthed

pub returns-clause-agree : goal.returns-clause-agree
returns-clause-agree c = λ bytes case rows fields accepted earthed.
    c.agreement_law.ensures (elements_of case) (stands_after rows) (volts_in_fields case fields) (c.limits_law.ensures case (c.accepted_law.ensures bytes case accepted)) earthed
