-- The lines of findings.
use Rattle.std.specs.Prelude.{ℕ, List, [], ◌∷◌, codes, decimal}
use Rattle.std.specs.Fmt.{signed_decimal}
use Rattle.gic_review.specs.declared.findings.finding.Finding.{Finding}
use Rattle.gic_review.specs.declared.findings.finding.Finding.TheVariants.{Ungrounded, Part, Closure, Value, Alpha, Volts, Outside}
use Rattle.gic_case.specs.ListWord.{list_word}
use Rattle.gic_review.specs.declared.findings.finding.Side.{Side}
use Rattle.gic_review.specs.declared.findings.finding.Side.TheVariants.{High, Low, Third}
use Rattle.gic_review.specs.declared.findings.measured.Quantity.{Quantity}
use Rattle.gic_review.specs.declared.findings.measured.Quantity.TheVariants as values
use Rattle.gic_report.specs.SharedLines.{Words}

-- what is measured goes by the key of a case, or by a word of its own
abbrev pub field_word : Quantity → List ℕ
field_word values.Latitude = codes "latitude"
field_word values.Beta = codes "beta"
field_word values.Ground = codes "ground"
field_word values.Resistance = codes "resistance"
field_word values.Span = codes "span"
field_word values.PerKilometre = codes "perkm"
field_word values.HighVolts = codes "high_volts"
field_word values.HighResistance = codes "high_resistance"
field_word values.LowResistance = codes "low_resistance"
field_word values.SeriesResistance = codes "series_resistance"
field_word values.CommonResistance = codes "common_resistance"
field_word values.ThirdResistance = codes "third_resistance"
field_word values.Neutral = codes "neutral"

-- the rated voltage of a side goes by the key of a case
abbrev pub side_word : Side → List ℕ
side_word High = codes "high_volts"
side_word Low = codes "low_volts"
side_word Third = codes "third_volts"

-- the line of a finding
unfoldable pub finding_line : Finding → Words
finding_line (Ungrounded name) = codes "ungrounded" ∷ name ∷ []
finding_line (Part nodes first) = codes "part" ∷ decimal nodes ∷ first ∷ []
finding_line (Closure name north east) = codes "closure" ∷ name ∷ signed_decimal north ∷ signed_decimal east ∷ []
finding_line (Value list name measured number) = codes "value" ∷ list_word list ∷ name ∷ field_word measured ∷ decimal number ∷ []
finding_line (Alpha name latitude) = codes "alpha" ∷ name ∷ decimal latitude ∷ []
finding_line (Volts name side volts measure) = codes "volts" ∷ name ∷ side_word side ∷ decimal volts ∷ decimal measure ∷ []
finding_line (Outside name) = codes "outside" ∷ name ∷ []
