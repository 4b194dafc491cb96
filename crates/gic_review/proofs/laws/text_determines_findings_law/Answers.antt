use Rattle.gic_review.proofs.ReviewDetermined.{review_determined}
use Rattle.gic_review.proofs.laws.text_determines_findings_law.Goals as goal

pub returns : goal.returns
returns c = review_determined
