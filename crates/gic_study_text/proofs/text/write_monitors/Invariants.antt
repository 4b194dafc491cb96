use Rattle.std.proofs.Common.{◌+◌, drop, map}
use Rattle.gic_report.proofs.Written.{Written}
use Rattle.gic_study_text.specs.StudyText.{monitor_texts}
use Rattle.gic_study_text.proofs.text.write_monitors.Given as goal

-- all is written but the texts of the monitors that are left
abbrev pub invariant-loop-place : goal.invariant-loop-place
invariant-loop-place g l = record {
  written : Written g.S.Sink.written g.S.Sink.faults l.fn.out l.out (monitor_texts 1 (map (λ t. t.items) l.texts)) (monitor_texts (l.place + 1) (map (λ t. t.items) (drop l.place l.texts)));
}
