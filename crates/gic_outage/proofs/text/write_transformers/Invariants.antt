use Rattle.std.proofs.Common.{map}
use Rattle.std.specs.Iterator.Adapters.{zip_first, zip_second}
use Rattle.std.specs.Slice.Iter.{iter_rest}
use Rattle.gic_text.specs.Lines.{lines_text}
use Rattle.gic_view.specs.Kept.{optional_ends}
use Rattle.gic_report.proofs.Written.{Written}
use Rattle.gic_outage.specs.OutageText.{greatest_worst_lines}
use Rattle.gic_outage.proofs.text.write_transformers.Given as goal

-- all is written but the lines that are left
abbrev pub invariant-loop-transformer : goal.invariant-loop-transformer
invariant-loop-transformer g l = record {
  written : Written g.S.Sink.written g.S.Sink.faults l.fn.out l.out (lines_text (greatest_worst_lines l.threshold l.case.transformers (map optional_ends l.greatest)))
      (lines_text (greatest_worst_lines l.threshold (iter_rest (zip_first l.transformer-iterator)) (map optional_ends (iter_rest (zip_second l.transformer-iterator)))));
}
