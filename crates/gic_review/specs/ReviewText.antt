-- The report of what is found in a case.
use Rattle.std.specs.Prelude.{ℕ, List, [], ◌∷◌, ◌++◌, length, map, codes, decimal}
use Rattle.gic_review.specs.declared.findings.finding.Finding.{Finding}
use Rattle.gic_report.specs.SharedLines.{Words, word_line}
use Rattle.gic_review.specs.FindingText.{finding_line}

-- the line of how many there are
abbrev pub findings_line : (count : ℕ) → Words
findings_line count = codes "findings" ∷ decimal count ∷ []

-- the lines of the report: a line for each finding, in their order, and how many there are
abbrev pub review_report : List Finding → List Words
review_report findings =
    word_line (codes "review") ∷ (map finding_line findings ++ (findings_line (length findings) ∷ word_line (codes "end") ∷ []))
