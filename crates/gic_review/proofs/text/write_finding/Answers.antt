use Rattle.std.proofs.Common.{rules}
use Rattle.gic_review.specs.FindingText.{finding_line}
use Rattle.gic_review.proofs.text.write_finding.Goals as goal
use Rattle.gic_review.proofs.text.write_finding.Goals.{in-Ungrounded, in-Part, in-Closure, in-Value, in-Alpha, in-Volts, in-Outside}

-- finding by finding
pub returns : goal.returns
unfolding finding_line
returns g c =
    elim c.match-finding.branch [
      | in-Ungrounded w ↦ search rules
      | in-Part w ↦ search rules
      | in-Closure w ↦ search rules
      | in-Value w ↦ search rules
      | in-Alpha w ↦ search rules
      | in-Volts w ↦ search rules
      | in-Outside w ↦ search rules
    ]
