use Rattle.gic_winding.specs.Weights.{no_transformer}
use Rattle.gic_report.specs.VerdictText.{transformer_line}
use Rattle.gic_report.proofs.Transformers.{line_at}
use Rattle.gic_report.proofs.laws.transformer_lines_law.Goals as goal

pub returns : goal.returns
returns c = λ case threshold view place h. line_at (transformer_line threshold) case.transformers view.effective place no_transformer h
