use Rattle.gic_model.specs.Standing.{stands_after}
use Rattle.gic_inputs.specs.Inputs.{rows_in}
use Rattle.gic_uniform.specs.Uniform.{uniform_volts}
use Rattle.gic_winding.specs.ElementList.{elements_of}
use Rattle.gic_certify.proofs.laws.right_certificates_law.Goals as goal

pub returns : goal.returns
returns c = λ inputs text sound report s solves k live.
    c.passing_law.ensures (elements_of inputs.case) (stands_after (rows_in inputs.switchings)) (uniform_volts inputs.case inputs.question.north inputs.question.east)
    report.certificate s k (c.limits_law.ensures inputs.case sound) report.passes solves live
