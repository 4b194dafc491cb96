use Rattle.std.proofs.Common.{◌≡◌, Result, sym, subst}
use Rattle.gic_base.specs.declared.out_of_memory.OutOfMemory.{OutOfMemory}
use Rattle.gic_stand.specs.declared.fault.ReportFault.{ReportFault}
use Rattle.gic_study.specs.ModeCalls.{told}
use Rattle.gic_study.proofs.fault.told.Goals as goal

pub returns-in-Ok : goal.returns-in-Ok
returns-in-Ok c =
    subst (λ (a : Result (Result (Unit {0}) ReportFault) OutOfMemory). c.reported.result ≡ told a) (sym c.in-Ok.is) c.reported.ensures
