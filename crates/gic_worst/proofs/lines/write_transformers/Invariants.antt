use Rattle.std.proofs.Common.{map}
use Rattle.std.specs.Iterator.Adapters.{zip_first, zip_second}
use Rattle.std.specs.Slice.Iter.{iter_rest}
use Rattle.gic_text.specs.Lines.{lines_text}
use Rattle.gic_report.proofs.Written.{Written}
use Rattle.gic_worst.specs.Rows.{screen_row_of}
use Rattle.gic_worst.specs.ScreenLines.{screened_transformer_lines}
use Rattle.gic_worst.proofs.lines.write_transformers.Given as goal

-- all is written but the lines that are left
abbrev pub invariant-loop-transformer : goal.invariant-loop-transformer
invariant-loop-transformer g l = record {
  written : Written g.S.Sink.written g.S.Sink.faults l.fn.out l.out (lines_text (screened_transformer_lines l.threshold l.transformers (map screen_row_of l.rows))) (lines_text (screened_transformer_lines l.threshold (iter_rest (zip_first l.transformer-iterator)) (map screen_row_of (iter_rest (zip_second l.transformer-iterator)))));
}
