use Rattle.std.proofs.Common.{sym, ap}
use Rattle.gic_report.proofs.Chained.{writes_as}
use Rattle.gic_study.specs.Faults.{input_words, told_line}
use Rattle.gic_study.proofs.fault_line.write_input.Goals as goal

pub returns-in-UnknownTransformer : goal.returns-in-UnknownTransformer
returns-in-UnknownTransformer g c = writes_as (ap (λ refusal. told_line (input_words refusal)) (sym c.in-UnknownTransformer.is)) c.write_line-in-UnknownTransformer.ensures
