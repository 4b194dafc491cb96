use Rattle.std.proofs.Common.{drop}
use Rattle.gic_text.specs.Lines.{lines_text}
use Rattle.gic_report.specs.VerdictText.{absolute_lines}
use Rattle.gic_report.proofs.Written.{Written}
use Rattle.gic_report.proofs.verdict.write_absolutes.Given as goal

-- all is written but the lines of the transformers that are left
abbrev pub invariant-loop-transformer : goal.invariant-loop-transformer
invariant-loop-transformer g l = record {
  written : Written g.S.Sink.written g.S.Sink.faults l.fn.out l.out (lines_text (absolute_lines l.threshold l.transformers l.view.effective))
      (lines_text (absolute_lines l.threshold (drop l.transformer-index l.transformers) l.cells));
}
