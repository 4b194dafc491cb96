use Rattle.std.proofs.Common.{sym, ap}
use Rattle.gic_report.proofs.Chained.{writes_as}
use Rattle.gic_study.specs.Faults.{certificate_words, told_line}
use Rattle.gic_study.proofs.fault_line.write_certificate.Goals as goal

pub returns-in-Residual : goal.returns-in-Residual
returns-in-Residual g c = writes_as (ap (λ refusal. told_line (certificate_words refusal)) (sym c.in-Residual.is)) c.write_named-in-Residual.ensures
