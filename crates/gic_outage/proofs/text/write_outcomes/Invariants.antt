use Rattle.std.proofs.Common.{drop}
use Rattle.gic_text.specs.Lines.{lines_text}
use Rattle.gic_report.proofs.Written.{Written}
use Rattle.gic_outage.specs.OutageText.{outcome_lines, plan_names}
use Rattle.gic_outage.proofs.text.write_outcomes.Given as goal

-- all is written but the lines of the outages that are left
abbrev pub invariant-loop-place : goal.invariant-loop-place
invariant-loop-place g l = record {
  written : Written g.S.Sink.written g.S.Sink.faults l.fn.out l.out (lines_text (outcome_lines (plan_names l.case) l.outcomes))
      (lines_text (outcome_lines (drop l.place (plan_names l.case)) (drop l.place l.outcomes)));
}
