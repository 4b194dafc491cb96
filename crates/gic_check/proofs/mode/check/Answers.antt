use Rattle.std.proofs.Common.{◌≡◌, List, refl, subst}
use Rattle.gic_model.specs.Sums.{Placed}
use Rattle.gic_model.specs.Earthing.{AreEarthed}
use Rattle.gic_net.specs.Net.{standing}
use Rattle.gic_stand.specs.Needs.{Earthed, Fails}
use Rattle.gic_stand.specs.Serves.{shown}
use Rattle.gic_stand.specs.Standing.{standing_of, steps_of}
use Rattle.gic_stand.proofs.Served.{served, met_once, unserved_network}
use Rattle.gic_check.specs.RightCheck.{check_text, IsRightCheck}
use Rattle.gic_check.proofs.mode.check.Goals as goal

pub returns : goal.returns
returns g c =
    let inputs = c.args.inputs.now in
    let stands = standing_of inputs.case inputs.switchings in
    served Earthed inputs.case (steps_of inputs) (IsRightCheck inputs) _ _ _ c.write_live-writing.result c.ended.result
    (met_once Earthed stands (subst AreEarthed c.requires.stands c.in_ok-expect_earthed.ensures.earthed))
    (subst (λ (s : List Placed). check_text inputs.case (standing c.args.workspace.now.net) ≡ check_text inputs.case s) c.requires.stands refl)
    c.write_live-writing.ensures.all c.write_live-writing.ensures.part c.write_live-writing.ensures.cause c.ended.ensures

pub returns-in_err-expect_earthed : goal.returns-in_err-expect_earthed
returns-in_err-expect_earthed g c =
    let inputs = c.args.inputs.now in
    let refusal = c.in_err-expect_earthed.field-0.0 in
    unserved_network Earthed inputs.case (standing_of inputs.case inputs.switchings) (IsRightCheck inputs) (shown g.S.Sink.written g.S.Sink.faults c.args.out.now) refusal
    c.from_residual.result c.from_residual.ensures.1
    (subst (λ (s : List Placed). Fails Earthed inputs.case 1 s refusal) c.requires.stands c.in_err-expect_earthed.ensures.err)
