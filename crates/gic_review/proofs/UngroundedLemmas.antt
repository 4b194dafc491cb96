-- What is told of each substation.
use Rattle.std.proofs.Common.{ℕ, List}
use Rattle.gic_case.specs.declared.item.Substation.{Substation}
use Rattle.gic_model.specs.declared.parts.Element.{Element}
use Rattle.gic_review.specs.declared.findings.finding.Finding.{Finding}
use Rattle.gic_review.specs.Ungrounded.{is_winding_end, ungrounded_told}

abbrev pub ungrounded_part : List Element → ℕ × Substation → List Finding
ungrounded_part elements p = ungrounded_told p.1 (is_winding_end elements p.0)
