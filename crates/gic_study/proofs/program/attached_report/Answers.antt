use Rattle.gic_base.proofs.Parts.{keeps-refl}
use Rattle.gic_files.specs.Files.{fetches}
use Rattle.gic_stand.specs.Serves.{shown}
use Rattle.gic_study.proofs.Explained.{explained}
use Rattle.gic_study.proofs.program.attached_report.Goals as goal

pub returns-in-Err : goal.returns-in-Err
returns-in-Err g c = λ told told'. record { asks = c.in-Err.ensures.asks; kept = keeps-refl (g.S.Sink.written c.args.out.now) }

pub returns-in-Ok : goal.returns-in-Ok
returns-in-Ok g c = λ told told'.
    explained _ _ _
    (record { fetches = fetches g.L.Library.fetched g.L.Library.failures c.args.library.now; out = shown g.S.Sink.written g.S.Sink.faults c.args.out.now; err = told })
    (record { fetches = fetches g.L.Library.fetched g.L.Library.failures c.ask.new.library; out = shown g.S.Sink.written g.S.Sink.faults c.serve_attached.new.out; err = told' })
    c.in-Ok.asked c.serve_attached.result c.in-Ok.ensures.asks c.serve_attached.ensures
