-- That the text of the mode determines what it tells.
use Rattle.std.specs.Prelude.{◌≡◌, ◌<◌, ◌^◌, List, length, IsTrue, FitsSigned}
use Rattle.std.specs.Int.{w64}
use Rattle.std.specs.List.{AllByRecursion}
use Rattle.gic_base.specs.Name.{is_name}
use Rattle.gic_text.specs.Lines.{lines_text}
use Rattle.gic_review.specs.declared.findings.finding.Finding.{Finding}
use Rattle.gic_review.specs.declared.findings.finding.Finding.TheVariants.{Ungrounded, Part, Closure, Value, Alpha, Volts, Outside}
use Rattle.gic_review.specs.ReviewText.{review_report}

-- a finding with a name and with numbers of 64 bits
abbrev pub CanBeTold : Finding → Type 0
CanBeTold (Ungrounded name) = IsTrue (is_name name)
CanBeTold (Part nodes first) = (nodes < 2 ^ 64) × IsTrue (is_name first)
CanBeTold (Closure name north east) = IsTrue (is_name name) × (FitsSigned w64 north × FitsSigned w64 east)
CanBeTold (Value list name measured number) = IsTrue (is_name name) × (number < 2 ^ 64)
CanBeTold (Alpha name latitude) = IsTrue (is_name name) × (latitude < 2 ^ 64)
CanBeTold (Volts name side volts measure) = IsTrue (is_name name) × ((volts < 2 ^ 64) × (measure < 2 ^ 64))
CanBeTold (Outside name) = IsTrue (is_name name)

-- equal texts tell the same findings
abbrev pub TextDeterminesFindings : Type 0
TextDeterminesFindings = (findings others : List Finding) → AllByRecursion CanBeTold findings → AllByRecursion CanBeTold others → length findings < 2 ^ 64 → length others < 2 ^ 64 →
    lines_text (review_report findings) ≡ lines_text (review_report others) → findings ≡ others
