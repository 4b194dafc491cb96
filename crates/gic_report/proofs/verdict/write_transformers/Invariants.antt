use Rattle.std.proofs.Common.{All, drop}
use Rattle.gic_text.specs.Lines.{lines_text}
use Rattle.gic_view.specs.Absolute.{HasAbsolute}
use Rattle.gic_report.specs.VerdictText.{transformer_lines}
use Rattle.gic_report.proofs.Written.{Written}
use Rattle.gic_report.proofs.verdict.write_transformers.Given as goal

-- all is written but the lines of the transformers that are left, and their intervals have absolute values
abbrev pub invariant-loop-transformer : goal.invariant-loop-transformer
invariant-loop-transformer g l = record {
  written : Written g.S.Sink.written g.S.Sink.faults l.fn.out l.out (lines_text (transformer_lines l.threshold l.transformers l.view.effective))
      (lines_text (transformer_lines l.threshold (drop l.transformer-index l.transformers) l.cells));
  absolutes : All HasAbsolute l.cells;
}
