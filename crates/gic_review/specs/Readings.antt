-- Values that are usual hardly anywhere: what is measured of each row, in the order of its fields, and which of it is told.
use Rattle.std.specs.Prelude.{ℕ, ◌*◌, ◌/◌, nat_le, List, [], ◌∷◌, ◌++◌, map, flat_map, not, ◌&&◌, if◌then◌else◌, Option, Some, None}
use Rattle.gic_case.specs.declared.scaling.Scaling.{Scaling}
use Rattle.gic_case.specs.declared.scaling.Scaling.TheVariants as scalings
use Rattle.gic_case.specs.ZoneView.{ZoneView}
use Rattle.gic_case.specs.declared.item.Substation.{Substation}
use Rattle.gic_case.specs.declared.item.Line.{Line}
use Rattle.gic_case.specs.declared.item.Neutral.{Neutral}
use Rattle.gic_case.specs.declared.item.Neutral.TheVariants as devices
use Rattle.gic_case.specs.declared.item.Transformer.{Transformer}
use Rattle.gic_case.specs.declared.winding.WindingRole.{WindingRole}
use Rattle.gic_case.specs.declared.winding.WindingRole.TheVariants as roles
use Rattle.gic_case.specs.declared.winding.Winding.{Winding}
use Rattle.gic_case.specs.Lists.{Lists, has_effect}
use Rattle.gic_case.specs.Windings.{windings_of, has_windings}
use Rattle.gic_case.specs.declared.case_list.CaseList.{CaseList}
use Rattle.gic_case.specs.declared.case_list.CaseList.TheVariants as lists
use Rattle.gic_review.specs.declared.findings.finding.Finding.{Finding}
use Rattle.gic_review.specs.declared.findings.finding.Finding.TheVariants.{Value}
use Rattle.gic_review.specs.declared.findings.measured.Quantity.{Quantity}
use Rattle.gic_review.specs.declared.findings.measured.Quantity.TheVariants as values
use Rattle.gic_review.specs.Spans.{span_of, length_of}
use Rattle.gic_review.specs.Usual.{is_unusual}

-- what is measured, and the number
abbrev pub Reading : Type 0
Reading = Quantity × ℕ

-- a zone that is given by one number has no value here
abbrev pub scaling_readings : Scaling → List Reading
scaling_readings (scalings.Earth latitude beta) = (values.Latitude, latitude) ∷ (values.Beta, beta) ∷ []
scaling_readings (scalings.Factor thousandths) = []

abbrev pub zone_readings : ZoneView → List Reading
zone_readings z = scaling_readings z.scaling

-- an earthing that isn't there has no value
abbrev pub earthing_readings : Option ℕ → List Reading
earthing_readings None = []
earthing_readings (Some ohm) = (values.Ground, ohm) ∷ []

abbrev pub substation_readings : Substation → List Reading
substation_readings s = earthing_readings s.ground

-- how long a line is that isn't blocked
abbrev pub span_readings : Line → List Reading
span_readings l = if l.blocked then [] else (values.Span, length_of (span_of l)) ∷ []

-- the resistance for a kilometre, of a line of a kilometre or more
abbrev pub kilometre_readings : Line → List Reading
kilometre_readings l = if nat_le 1000 (length_of (span_of l)) then (values.PerKilometre, l.resistance * 1000 / length_of (span_of l)) ∷ [] else []

abbrev pub line_readings : Line → List Reading
line_readings l = (values.Resistance, l.resistance) ∷ (span_readings l ++ kilometre_readings l)

-- the high voltage, which a reactor isn't asked: a unit that has windings and no effective current
abbrev pub volts_readings : Transformer → List Reading
volts_readings t = if has_windings t && not (has_effect t.kind) then [] else (values.HighVolts, t.high_volts) ∷ []

-- what the resistance of a winding is measured as
abbrev pub resistance_by : WindingRole → Quantity
resistance_by roles.High = values.HighResistance
resistance_by roles.Low = values.LowResistance
resistance_by roles.Series = values.SeriesResistance
resistance_by roles.Common = values.CommonResistance
resistance_by roles.Third = values.ThirdResistance

-- the resistances of windings
abbrev pub winding_readings : List Winding → List Reading
winding_readings = map (λ w. (resistance_by w.role, w.resistance))

-- a resistor in the neutral
abbrev pub neutral_readings : Option Neutral → List Reading
neutral_readings None = []
neutral_readings (Some (devices.Resistor ohm)) = (values.Neutral, ohm) ∷ []
neutral_readings (Some devices.Blocked) = []

abbrev pub transformer_readings : Transformer → List Reading
transformer_readings t = volts_readings t ++ (winding_readings (windings_of t) ++ neutral_readings t.neutral)

-- a reading of a row of this name is told where it is unusual
abbrev pub value_told : CaseList → List ℕ → Reading → List Finding
value_told list name r = if is_unusual r.0 r.1 then Value list name r.0 r.1 ∷ [] else []

abbrev pub values_told : CaseList → List ℕ → List Reading → List Finding
values_told list name readings = flat_map (value_told list name) readings

-- what is told of the values of a row of each list
abbrev pub zone_told : ZoneView → List Finding
zone_told z = values_told lists.Zone z.name (zone_readings z)

abbrev pub substation_told : Substation → List Finding
substation_told s = values_told lists.Substation s.name (substation_readings s)

abbrev pub line_told : Line → List Finding
line_told l = values_told lists.Line l.name (line_readings l)

abbrev pub transformer_told : Transformer → List Finding
transformer_told t = values_told lists.Transformer t.name (transformer_readings t)

-- what is told of the values of a case: zones, substations, lines, transformers, each in case order
abbrev pub values_of : Lists → List Finding
values_of c = flat_map zone_told c.zones ++ (flat_map substation_told c.substations ++ (flat_map line_told c.lines ++ flat_map transformer_told c.transformers))
