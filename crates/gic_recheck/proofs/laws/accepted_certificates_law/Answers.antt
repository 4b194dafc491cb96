use Rattle.std.proofs.Common.{arith}
use Rattle.gic_model.specs.Standing.{stands_after}
use Rattle.gic_cert.specs.Written.{entry_of}
use Rattle.gic_inputs.specs.Inputs.{rows_in}
use Rattle.gic_winding.proofs.Limits.{nodes_named}
use Rattle.gic_winding.specs.ElementList.{elements_of}
use Rattle.gic_recheck.specs.Follows.{certificate_volts}
use Rattle.gic_recheck.proofs.Holds.{shows_right}
use Rattle.gic_recheck.proofs.laws.accepted_certificates_law.Goals as goal

pub returns-clause-holds : goal.returns-clause-holds
returns-clause-holds c = λ inputs bytes text sound report k within.
    shows_right c.passing_law.ensures (elements_of inputs.case) (stands_after (rows_in inputs.switchings)) (certificate_volts inputs.case report.certificate)
    report.certificate (c.limits_law.ensures inputs.case sound) report.accepted.passes k (omega (arith, within, nodes_named inputs.case))

pub returns-clause-solved : goal.returns-clause-solved
returns-clause-solved c = λ inputs bytes text sound report.
    c.bound_networks_are_solved_law.ensures (elements_of inputs.case) (stands_after (rows_in inputs.switchings)) (entry_of report.certificate)
    (certificate_volts inputs.case report.certificate) (c.limits_law.ensures inputs.case sound) report.accepted.passes.vector
