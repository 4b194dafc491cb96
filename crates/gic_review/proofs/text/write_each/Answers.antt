use Rattle.std.proofs.Common.{◌+◌, ◌++◌, ◌∙◌, map, drop, rules, ap, sym}
use Rattle.gic_text.specs.Lines.{line_text, lines_text}
use Rattle.gic_review.specs.declared.findings.finding.Finding.{Finding}
use Rattle.gic_report.proofs.Framed.{next_line}
use Rattle.gic_report.proofs.Written.{goes_on, stops}
use Rattle.gic_review.specs.FindingText.{finding_line}
use Rattle.gic_review.proofs.text.write_each.Goals as goal

pub loop-finding-preserved : goal.loop-finding-preserved
loop-finding-preserved g c =
    let findings = c.args.findings.now in
    let i = c.loop-finding.finding-index in
    let next = next_line finding_line findings i c.finding-item.result (search rules) ∙ ap (λ (f : Finding). line_text (finding_line f) ++ lines_text (map finding_line (drop (i + 1) findings))) (sym c.finding-item.is) in
    record { written = goes_on c.loop-finding.invariant.written next c.in_ok-write_finding.ensures }

pub returns-in_err-write_finding : goal.returns-in_err-write_finding
returns-in_err-write_finding g c =
    let findings = c.args.findings.now in
    let i = c.loop-finding.finding-index in
    let next = next_line finding_line findings i c.finding-item.result (search rules) ∙ ap (λ (f : Finding). line_text (finding_line f) ++ lines_text (map finding_line (drop (i + 1) findings))) (sym c.finding-item.is) in
    stops _ c.loop-finding.invariant.written next c.in_err-write_finding.ensures c.from_residual.ensures.1
