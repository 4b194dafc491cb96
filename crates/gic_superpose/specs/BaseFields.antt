-- Base fields, in which one zone alone has a field, of MOST_FIELD to the north or to the east, and the voltages that they induce.
use Rattle.std.specs.Prelude.{ℕ, List, length, ℤ, pos}
use Rattle.gic_base.specs.declared.limits.TheConstants.{MOST_FIELD}
use Rattle.gic_case.specs.Lists.{Lists}
use Rattle.gic_induce.specs.Fields.{lone_field}
use Rattle.gic_induce.specs.LineVolts.{volts_of}
use Rattle.gic_model.specs.declared.parts.Element.{Element}
use Rattle.gic_model.specs.Voltages.{number_at}

-- the voltages in nanovolts, by the places of the elements, of a zone's base field to the north
abbrev pub north_volts : Lists → List Element → (zone : ℕ) → (place : ℕ) → ℤ
north_volts case elements zone = number_at (volts_of case (lone_field (length case.zones) zone (pos MOST_FIELD, pos 0)) elements)

-- and of its base field to the east
abbrev pub east_volts : Lists → List Element → (zone : ℕ) → (place : ℕ) → ℤ
east_volts case elements zone = number_at (volts_of case (lone_field (length case.zones) zone (pos 0, pos MOST_FIELD)) elements)
