use Rattle.std.proofs.Common.{◌≡◌, refl, sym, subst}
use Rattle.gic_base.proofs.Parts.{keeps-refl}
use Rattle.gic_stand.specs.Serves.{Shown, shown}
use Rattle.gic_study.specs.Answers.{Tells, status_of}
use Rattle.gic_study.specs.Concluding.{Answer}
use Rattle.gic_study.proofs.study.ended.Goals as goal

pub returns-in-Ok-clause-status : goal.returns-in-Ok-clause-status
returns-in-Ok-clause-status g c = subst (λ (a : Answer). 0 ≡ status_of a) (sym c.in-Ok.is) refl

pub returns-in-Err-clause-status : goal.returns-in-Err-clause-status
returns-in-Err-clause-status g c = subst (λ (a : Answer). c.status.result ≡ status_of a) (sym c.in-Err.is) c.status.ensures

pub returns-in-Ok-clause-line : goal.returns-in-Ok-clause-line
returns-in-Ok-clause-line g c =
    let told : Shown = shown g.E.Sink.written g.E.Sink.faults c.args.err.now in
    subst (λ (a : Answer). Tells told told a) (sym c.in-Ok.is) (keeps-refl (g.E.Sink.written c.args.err.now))

pub returns-in-Err-clause-line : goal.returns-in-Err-clause-line
returns-in-Err-clause-line g c =
    let before : Shown = shown g.E.Sink.written g.E.Sink.faults c.args.err.now in
    let now : Shown = shown g.E.Sink.written g.E.Sink.faults c.tell.new.err in
    subst (λ (a : Answer). Tells before now a) (sym c.in-Err.is) c.tell.ensures
