use Rattle.std.proofs.Common.{ℤ, map, refl, sym, ap, subst, ◌∙◌}
use Rattle.gic_induce.specs.Voltage.{IsFieldWithin}
use Rattle.gic_net.specs.Net.{standing}
use Rattle.gic_stand.specs.Serves.{shown}
use Rattle.gic_text.specs.Lines.{lines_text}
use Rattle.gic_view.specs.Kept.{optional_ends}
use Rattle.gic_recheck.specs.RecheckText.{recheck_report}
use Rattle.gic_report.proofs.Chained.{writes_as}
use Rattle.gic_recheck.proofs.Endings.{writing_served, refusal_served}
use Rattle.gic_recheck.proofs.Telling.{break_told}
use Rattle.gic_recheck.proofs.OwnReport.{own_report}
use Rattle.gic_recheck.proofs.mode.show.Goals as goal

pub returns-in-Ok : goal.returns-in-Ok
returns-in-Ok g c = λ bytes read.
    let case = c.args.case.now in
    let net = c.args.net.now in
    let cert = c.args.cert.now in
    let north : IsFieldWithin c.north.result = subst IsFieldWithin (sym c.north.ensures.value) c.north.ensures.written.north in
    let east : IsFieldWithin c.east.result = subst IsFieldWithin (sym c.east.ensures) c.north.ensures.written.east in
    let shown = map optional_ends c.args.intervals.now in
    let text = own_report case c.north.result c.east.result shown north east
    ∙ ap (λ (z : ℤ). lines_text (recheck_report case z c.east.result shown)) c.north.ensures.value
    ∙ ap (λ (z : ℤ). lines_text (recheck_report case cert.north z shown)) c.east.ensures
    ∙ ap (λ l. lines_text (recheck_report case cert.north cert.east l)) c.requires.intervals in
    writing_served case (standing net) bytes c.write_recheck-writing.result c.shown_so.result
    (record {
      certificate = cert;
      accepted = record { read = read; passes = c.in-Ok.ensures.passes };
      text_is = refl;
    })
    (writes_as text c.write_recheck-writing.ensures) c.shown_so.ensures

pub returns-in-Err : goal.returns-in-Err
returns-in-Err g c = λ bytes read.
    refusal_served c.args.case.now (standing c.args.net.now) bytes (shown g.S.Sink.written g.S.Sink.faults c.args.out.now) c.in-Err.refusal
    (break_told c.args.case.now (standing c.args.net.now) bytes c.args.cert.now c.in-Err.refusal read c.in-Err.ensures.refused)
