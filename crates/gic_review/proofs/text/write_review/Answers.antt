use Rattle.std.proofs.Common.{◌≡◌, List, ◌++◌, map, length}
use Rattle.std.specs.Prelude.{codes}
use Rattle.gic_text.specs.Lines.{line_text, lines_text}
use Rattle.gic_review.specs.declared.findings.finding.Finding.{Finding}
use Rattle.gic_report.specs.SharedLines.{word_line}
use Rattle.gic_report.proofs.Chained.{writes_as, writes_then, writes_stop}
use Rattle.gic_report.proofs.Framed.{headed}
use Rattle.gic_review.specs.FindingText.{finding_line}
use Rattle.gic_review.specs.ReviewText.{findings_line, review_report}
use Rattle.gic_review.proofs.text.write_review.Goals as goal

-- the report in the pieces in which it is written
pieces : (findings : List Finding)
    → line_text (word_line (codes "review")) ++ (lines_text (map finding_line findings) ++ (line_text (findings_line (length findings)) ++ line_text (word_line (codes "end"))))
    ≡ lines_text (review_report findings)
pieces findings = headed (word_line (codes "review")) (map finding_line findings) (findings_line (length findings)) (word_line (codes "end"))

pub returns-in_err-write_word : goal.returns-in_err-write_word
returns-in_err-write_word g c =
    writes_as (pieces c.args.findings.now)
    (writes_stop _ c.in_err-write_word.ensures c.from_residual.ensures.1)

pub returns-in_err-write_each : goal.returns-in_err-write_each
returns-in_err-write_each g c =
    writes_as (pieces c.args.findings.now)
    (writes_then c.in_ok-write_word.ensures (writes_stop _ c.in_err-write_each.ensures c.from_residual-in_err-write_each.ensures.1))

pub returns-in_err-write_count : goal.returns-in_err-write_count
returns-in_err-write_count g c =
    writes_as (pieces c.args.findings.now)
    (writes_then c.in_ok-write_word.ensures (writes_then c.in_ok-write_each.ensures (writes_stop _ c.in_err-write_count.ensures c.from_residual-in_err-write_count.ensures.1)))

pub returns : goal.returns
returns g c =
    writes_as (pieces c.args.findings.now)
    (writes_then c.in_ok-write_word.ensures (writes_then c.in_ok-write_each.ensures (writes_then c.in_ok-write_count.ensures c.write_word-2.ensures)))
