use Rattle.std.specs.Iterator.Adapters.{zip_first, zip_second}
use Rattle.std.specs.Slice.Iter.{iter_rest}
use Rattle.gic_text.specs.Lines.{lines_text}
use Rattle.gic_volts.specs.VoltsText.{volts_lines}
use Rattle.gic_report.proofs.Written.{Written}
use Rattle.gic_volts.proofs.text.write_volts_lines.Given as goal

-- all is written but the lines that are left
abbrev pub invariant-loop-item : goal.invariant-loop-item
invariant-loop-item g l = record {
  written : Written g.S.Sink.written g.S.Sink.faults l.fn.out l.out (lines_text (volts_lines l.lines l.nanovolts)) (lines_text (volts_lines (iter_rest (zip_first l.item-iterator)) (iter_rest (zip_second l.item-iterator))));
}
