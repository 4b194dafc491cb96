use Rattle.std.proofs.Common.{ap, sym, ◌∙◌}
use Rattle.gic_winding.specs.ElementList.{elements_of}
use Rattle.gic_winding.proofs.Limits.{within_limits}
use Rattle.gic_review.specs.Findings.{findings_with}
use Rattle.gic_review.proofs.PartLaws.{sizes_only}
use Rattle.gic_review.proofs.laws.findings_law.Goals as goal

pub returns : goal.returns
returns c = λ case findings others sound h t.
    let limits = within_limits case sound in
    let same = sizes_only (elements_of case) limits h.sizes h.of_parts ∙ sym (sizes_only (elements_of case) limits t.sizes t.of_parts) in
    h.all ∙ ap (findings_with case) same ∙ sym t.all
