use Rattle.std.proofs.Common.{sym, ◌∙◌}
use Rattle.std.proofs.lemmas.List.{length-map}
use Rattle.gic_ask.specs.declared.request.Asked.TheVariants.{Network, Make, Series, Robust}
use Rattle.gic_stand.specs.Serves.{shown}
use Rattle.gic_study.proofs.Served.{of_asked, of_told, on_made}
use Rattle.gic_study.proofs.modes.serve.Goals as goal

pub returns-in-Network : goal.returns-in-Network
returns-in-Network g c =
    of_told _ c.args.asked (Network c.in-Network.mode c.in-Network.inputs) (shown g.S.Sink.written g.S.Sink.faults c.args.out.now) (shown g.S.Sink.written g.S.Sink.faults c.network_report.new.out) c.network_report.result c.told.result c.in-Network.is (λ all. c.network_report.ensures) c.told.ensures

pub returns-in-Make : goal.returns-in-Make
returns-in-Make g c =
    of_told _ c.args.asked (Make c.in-Make.request) (shown g.S.Sink.written g.S.Sink.faults c.args.out.now) (shown g.S.Sink.written g.S.Sink.faults c.make_report.new.out) c.make_report.result c.told-in-Make.result c.in-Make.is (λ all. c.make_report.ensures.ends) c.told-in-Make.ensures

pub returns-in-Series : goal.returns-in-Series
returns-in-Series g c =
    of_told _ c.args.asked (Series c.in-Series.given) (shown g.S.Sink.written g.S.Sink.faults c.args.out.now) (shown g.S.Sink.written g.S.Sink.faults c.series_report.new.out) c.series_report.result c.told-in-Series.result c.in-Series.is (λ all. c.series_report.ensures.ends) c.told-in-Series.ensures

pub returns-in-Robust : goal.returns-in-Robust
returns-in-Robust g c =
    of_told _ c.args.asked (Robust c.in-Robust.inputs) (shown g.S.Sink.written g.S.Sink.faults c.args.out.now) (shown g.S.Sink.written g.S.Sink.faults c.robust_report.new.out) c.robust_report.result c.told-in-Robust.result c.in-Robust.is (λ all. c.robust_report.ensures.ends) c.told-in-Robust.ensures

pub returns-in-Study : goal.returns-in-Study
returns-in-Study g c =
    of_asked _ c.args.asked _ (shown g.S.Sink.written g.S.Sink.faults c.args.out.now) (shown g.S.Sink.written g.S.Sink.faults c.serve_study.new.out) c.serve_study.result c.in-Study.is (c.serve_study.ensures.ends _ (on_made c.make_workspace-made.result _ _ (λ workspace count roster views. length-map c.args.monitors.items _ ∙ sym count) c.make_workspace-made.ensures.count) c.make_workspace-made.ensures.plans)

pub returns-in-Recheck : goal.returns-in-Recheck
returns-in-Recheck g c =
    of_asked _ c.args.asked _ (shown g.S.Sink.written g.S.Sink.faults c.args.out.now) (shown g.S.Sink.written g.S.Sink.faults c.serve_recheck.new.out) c.serve_recheck.result c.in-Recheck.is (c.serve_recheck.ensures.ends _)
