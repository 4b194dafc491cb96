use Rattle.std.proofs.Common.{rules, ◌<◌, length}
use Rattle.gic_report.proofs.Written.{goes_on, stops}
use Rattle.gic_study_text.proofs.Left.{next_monitor}
use Rattle.gic_study_text.proofs.text.write_monitors.Goals as goal

pub loop-place-preserved : goal.loop-place-preserved
loop-place-preserved g c =
    let less : c.loop-place.place < length c.args.texts.now = search rules in
    let next = next_monitor (λ t. t.items) c.args.texts.now c.loop-place.place c.index-texts-place.result c.deref.result.now less c.deref.ensures.value c.index-texts-place.is in
    record { written = goes_on c.loop-place.invariant.written next c.in_ok-write_monitor.ensures }

pub returns-in_err-write_monitor : goal.returns-in_err-write_monitor
returns-in_err-write_monitor g c =
    let less : c.loop-place.place < length c.args.texts.now = search rules in
    let next = next_monitor (λ t. t.items) c.args.texts.now c.loop-place.place c.index-texts-place.result c.deref.result.now less c.deref.ensures.value c.index-texts-place.is in
    stops _ c.loop-place.invariant.written next c.in_err-write_monitor.ensures c.from_residual.ensures.1
