use Rattle.std.proofs.Common.{map, drop}
use Rattle.gic_text.specs.Lines.{lines_text}
use Rattle.gic_list.specs.ListText.{element_line}
use Rattle.gic_report.proofs.Written.{Written}
use Rattle.gic_list.proofs.text.write_elements.Given as goal

-- all is written but the lines of the elements that are left
abbrev pub invariant-loop-element : goal.invariant-loop-element
invariant-loop-element g l = record {
  written : Written g.S.Sink.written g.S.Sink.faults l.fn.out l.out (lines_text (map (element_line l.case) l.elements)) (lines_text (map (element_line l.case) (drop l.element-index l.elements)));
}
