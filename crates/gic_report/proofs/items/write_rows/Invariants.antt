use Rattle.gic_text.specs.Lines.{lines_text}
use Rattle.gic_report.specs.ItemText.{row_lines, item_rows_of}
use Rattle.gic_report.specs.RowsLeft.{rows_left}
use Rattle.gic_report.proofs.Written.{Written}
use Rattle.gic_report.proofs.items.write_rows.Given as goal

-- all is written but the lines of the rows that are left
abbrev pub invariant-loop-row : goal.invariant-loop-row
invariant-loop-row g l = record {
  written : Written g.S.Sink.written g.S.Sink.faults l.fn.out l.out (lines_text (row_lines (item_rows_of l.case) l.view.elements)) (lines_text (row_lines (rows_left l.row-iterator) l.cells));
}
