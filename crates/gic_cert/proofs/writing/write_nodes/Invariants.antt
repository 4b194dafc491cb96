use Rattle.std.proofs.Common.{◌≡◌, ◌+◌, length, drop}
use Rattle.gic_text.specs.Lines.{lines_text}
use Rattle.gic_case.specs.Lists.{node_names}
use Rattle.gic_case.specs.NodeNames.{names_left}
use Rattle.gic_cert.specs.Text.{written_lines}
use Rattle.gic_report.proofs.Written.{Written}
use Rattle.gic_cert.proofs.writing.write_nodes.Given as goal

-- all is written but the lines of the nodes that are left
abbrev pub invariant-loop-name : goal.invariant-loop-name
invariant-loop-name g l = record {
  written : Written g.S.Sink.written g.S.Sink.faults l.fn.out l.out (lines_text (written_lines (node_names l.case) l.cert.nodes)) (lines_text (written_lines (names_left l.name-iterator) (drop l.node l.cert.nodes)));
  count : l.node + length (names_left l.name-iterator) ≡ length (node_names l.case);
}
