use Rattle.std.proofs.Common.{drop}
use Rattle.gic_text.specs.Lines.{lines_text}
use Rattle.gic_report.proofs.Written.{Written}
use Rattle.gic_study_text.specs.StudyText.{zone_lines}
use Rattle.gic_study_text.proofs.text.write_zones.Given as goal

-- all is written but the lines of the zones that are left
abbrev pub invariant-loop-place : goal.invariant-loop-place
invariant-loop-place g l = record {
  written : Written g.S.Sink.written g.S.Sink.faults l.fn.out l.out (lines_text (zone_lines l.zones l.fields)) (lines_text (zone_lines (drop l.place l.zones) (drop l.place l.fields)));
}
