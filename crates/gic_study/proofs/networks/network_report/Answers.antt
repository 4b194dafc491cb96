use Rattle.gic_stand.specs.Needs.{Nothing, Earthed, Solved}
use Rattle.gic_stand.specs.Serves.{shown}
use Rattle.gic_words.specs.declared.mode.NetworkMode.TheVariants as mode
use Rattle.gic_volts.specs.RightVolts.{IsRightVolts}
use Rattle.gic_list.specs.RightList.{IsRightList}
use Rattle.gic_check.specs.RightCheck.{IsRightCheck}
use Rattle.gic_field.specs.RightField.{IsRightField}
use Rattle.gic_screen_mode.specs.RightScreen.{IsRightScreen}
use Rattle.gic_certify.specs.RightCertify.{IsRightCertify}
use Rattle.gic_outage.specs.RightOutage.{IsRightOutage}
use Rattle.gic_review.specs.RightReview.{IsRightReview}
use Rattle.gic_study.proofs.Served.{of_mode}
use Rattle.gic_study.proofs.networks.network_report.Goals as goal

pub returns-in-Volts : goal.returns-in-Volts
returns-in-Volts g c =
    of_mode c.args.mode mode.Volts c.args.asked c.args.asked.question.field Nothing IsRightVolts (shown g.S.Sink.written g.S.Sink.faults c.args.out.now) (shown g.S.Sink.written g.S.Sink.faults c.volts_report.new.out) c.volts_report.result
    c.in-Volts.is (λ served. served) c.over-inputs.result c.over-inputs.ensures c.volts_report.ensures.ends

pub returns-in-List : goal.returns-in-List
returns-in-List g c =
    of_mode c.args.mode mode.List c.args.asked (tt {0}) Nothing IsRightList (shown g.S.Sink.written g.S.Sink.faults c.args.out.now) (shown g.S.Sink.written g.S.Sink.faults c.list_report.new.out) c.list_report.result
    c.in-List.is (λ served. served) c.over-inputs-in-List.result c.over-inputs-in-List.ensures c.list_report.ensures.ends

pub returns-in-Check : goal.returns-in-Check
returns-in-Check g c =
    of_mode c.args.mode mode.Check c.args.asked (tt {0}) Earthed IsRightCheck (shown g.S.Sink.written g.S.Sink.faults c.args.out.now) (shown g.S.Sink.written g.S.Sink.faults c.check_report.new.out) c.check_report.result
    c.in-Check.is (λ served. served) c.over-inputs-in-Check.result c.over-inputs-in-Check.ensures c.check_report.ensures.ends

pub returns-in-Field : goal.returns-in-Field
returns-in-Field g c =
    of_mode c.args.mode mode.Field c.args.asked c.args.asked.question Solved IsRightField (shown g.S.Sink.written g.S.Sink.faults c.args.out.now) (shown g.S.Sink.written g.S.Sink.faults c.field_report.new.out) c.field_report.result
    c.in-Field.is (λ served. served) c.over-inputs-in-Field.result c.over-inputs-in-Field.ensures c.field_report.ensures.ends

pub returns-in-Screen : goal.returns-in-Screen
returns-in-Screen g c =
    of_mode c.args.mode mode.Screen c.args.asked c.args.asked.question.criteria Solved IsRightScreen (shown g.S.Sink.written g.S.Sink.faults c.args.out.now) (shown g.S.Sink.written g.S.Sink.faults c.screen_report.new.out) c.screen_report.result
    c.in-Screen.is (λ served. served) c.over-inputs-in-Screen.result c.over-inputs-in-Screen.ensures c.screen_report.ensures.ends

pub returns-in-Certify : goal.returns-in-Certify
returns-in-Certify g c =
    of_mode c.args.mode mode.Certify c.args.asked c.args.asked.question.field Solved IsRightCertify (shown g.S.Sink.written g.S.Sink.faults c.args.out.now) (shown g.S.Sink.written g.S.Sink.faults c.certify_report.new.out) c.certify_report.result
    c.in-Certify.is (λ served. served) c.over-inputs-in-Certify.result c.over-inputs-in-Certify.ensures c.certify_report.ensures.ends

pub returns-in-Outage : goal.returns-in-Outage
returns-in-Outage g c =
    of_mode c.args.mode mode.Outage c.args.asked c.args.asked.question.criteria Solved IsRightOutage (shown g.S.Sink.written g.S.Sink.faults c.args.out.now) (shown g.S.Sink.written g.S.Sink.faults c.outage_report.new.out) c.outage_report.result
    c.in-Outage.is (λ served. served) c.over-inputs-in-Outage.result c.over-inputs-in-Outage.ensures c.outage_report.ensures.ends

pub returns-in-Review : goal.returns-in-Review
returns-in-Review g c =
    of_mode c.args.mode mode.Review c.args.asked (tt {0}) Nothing IsRightReview (shown g.S.Sink.written g.S.Sink.faults c.args.out.now) (shown g.S.Sink.written g.S.Sink.faults c.review_report.new.out) c.review_report.result
    c.in-Review.is (λ served. served) c.over-inputs-in-Review.result c.over-inputs-in-Review.ensures c.review_report.ensures.ends
