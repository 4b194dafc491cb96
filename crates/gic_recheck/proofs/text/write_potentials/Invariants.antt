use Rattle.std.proofs.Common.{map}
use Rattle.std.specs.Iterator.Adapters.{zip_first, zip_second}
use Rattle.std.specs.Slice.Iter.{iter_rest}
use Rattle.gic_text.specs.Lines.{lines_text}
use Rattle.gic_case.specs.Lists.{node_names}
use Rattle.gic_recheck.specs.RecheckText.{potential_lines}
use Rattle.gic_case.specs.NodeNames.{names_left}
use Rattle.gic_view.specs.Kept.{optional_ends}
use Rattle.gic_report.proofs.Written.{Written}
use Rattle.gic_recheck.proofs.text.write_potentials.Given as goal

-- all is written but the lines of the nodes that are left
abbrev pub invariant-loop-name : goal.invariant-loop-name
invariant-loop-name g l = record {
  written : Written g.S.Sink.written g.S.Sink.faults l.fn.out l.out (lines_text (potential_lines (node_names l.case) (map optional_ends l.intervals))) (lines_text (potential_lines (names_left (zip_first l.name-iterator)) (map optional_ends (iter_rest (zip_second l.name-iterator)))));
}
