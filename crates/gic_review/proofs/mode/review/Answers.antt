use Rattle.std.proofs.Common.{refl, subst, sym}
use Rattle.gic_stand.specs.Needs.{Nothing}
use Rattle.gic_stand.specs.Standing.{steps_of}
use Rattle.gic_stand.proofs.Served.{served, met_nothing}
use Rattle.gic_review.specs.Findings.{AreFindingsOf}
use Rattle.gic_review.specs.RightReview.{IsRightReview}
use Rattle.gic_review.proofs.mode.review.Goals as goal

pub returns : goal.returns
returns g c =
    let inputs = c.args.inputs.now in
    served Nothing inputs.case (steps_of inputs) (IsRightReview inputs) _ _ _ c.write_review-writing.result c.ended.result
    (met_nothing (steps_of inputs))
    (record { findings = c.deref.result.now; of_case = subst (AreFindingsOf inputs.case) (sym c.deref.ensures.value) c.requires; text_is = refl })
    c.write_review-writing.ensures.all c.write_review-writing.ensures.part c.write_review-writing.ensures.cause c.ended.ensures
