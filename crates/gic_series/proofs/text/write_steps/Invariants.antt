use Rattle.std.proofs.Common.{map, drop}
use Rattle.gic_text.specs.Lines.{lines_text}
use Rattle.gic_report.proofs.Written.{Written}
use Rattle.gic_series.specs.Rows.{series_row_of}
use Rattle.gic_series.specs.SeriesText.{series_step_line}
use Rattle.gic_series.proofs.text.write_steps.Given as goal

-- all is written but the lines of the steps that are left
abbrev pub invariant-loop-row : goal.invariant-loop-row
invariant-loop-row g l = record {
  written : Written g.S.Sink.written g.S.Sink.faults l.fn.out l.out (lines_text (map series_step_line (map series_row_of l.rows))) (lines_text (map series_step_line (map series_row_of (drop l.row-index l.rows))));
}
