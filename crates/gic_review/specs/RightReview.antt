-- What the mode prints.
use Rattle.std.specs.Prelude.{◌≡◌, ℕ, List}
use Rattle.gic_text.specs.Lines.{lines_text}
use Rattle.gic_review.specs.declared.findings.finding.Finding.{Finding}
use Rattle.gic_review.specs.Findings.{AreFindingsOf}
use Rattle.gic_review.specs.ReviewText.{review_report}
use Rattle.gic_inputs.specs.declared.inputs.Inputs.{Inputs}

-- the text tells what is found in the case, and nothing else
pub record IsRightReview (inputs : Inputs (Unit {0})) (text : List ℕ) : Type 0 where
  pub findings : List Finding
  pub of_case : AreFindingsOf inputs.case findings
  pub text_is : text ≡ lines_text (review_report findings)
