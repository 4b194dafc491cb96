use Rattle.std.proofs.Common.{map, drop}
use Rattle.gic_text.specs.Lines.{lines_text}
use Rattle.gic_report.proofs.Written.{Written}
use Rattle.gic_review.specs.FindingText.{finding_line}
use Rattle.gic_review.proofs.text.write_each.Given as goal

-- all is written but the lines of the findings that are left
abbrev pub invariant-loop-finding : goal.invariant-loop-finding
invariant-loop-finding g l = record {
  written : Written g.S.Sink.written g.S.Sink.faults l.fn.out l.out (lines_text (map finding_line l.findings)) (lines_text (map finding_line (drop l.finding-index l.findings)));
}
