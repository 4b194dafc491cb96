use Rattle.gic_base.proofs.Parts.{keeps-refl}
use Rattle.gic_study.proofs.program.without_memory.Goals as goal

pub returns : goal.returns
returns g c = λ plans asked. (tt, keeps-refl (g.S.Sink.written c.args.out.now))
