-- Rated voltages at one bus that don't fit. The first side at a bus is the measure of the bus, and later sides there are compared with it.
use Rattle.std.specs.Prelude.{ℕ, ◌*◌, nat_lt, ◌||◌, Bool, List, [], ◌∷◌, ◌++◌, length, map, flat_map, replicate, slice_index_or, slice_set, if◌then◌else◌, Option, Some, None}
use Rattle.gic_case.specs.declared.item.Transformer.{Transformer}
use Rattle.gic_case.specs.declared.winding.WindingRole.{WindingRole}
use Rattle.gic_case.specs.declared.winding.WindingRole.TheVariants as roles
use Rattle.gic_case.specs.declared.winding.Winding.{Winding}
use Rattle.gic_case.specs.Windings.{windings_of}
use Rattle.gic_case.specs.Lists.{Lists}
use Rattle.gic_review.specs.declared.findings.finding.Side.{Side}
use Rattle.gic_review.specs.declared.findings.finding.Side.TheVariants as sides
use Rattle.gic_review.specs.declared.findings.finding.Finding.{Finding}
use Rattle.gic_review.specs.declared.findings.finding.Finding.TheVariants.{Volts}
use Rattle.gic_review.specs.declared.findings.sides.RatedSide.{RatedSide}

-- a side of the transformer of this name, at a bus
abbrev pub rated : List ℕ → Side → (bus volts : ℕ) → RatedSide
rated name side bus volts = record { name = name; side = side; bus = bus; volts = volts }

-- the side from which a winding runs
abbrev pub side_by : WindingRole → Side
side_by roles.High = sides.High
side_by roles.Low = sides.Low
side_by roles.Series = sides.High
side_by roles.Common = sides.Low
side_by roles.Third = sides.Third

-- the sides from which the windings of the transformer of this name run
abbrev pub sides_by : List ℕ → List Winding → List RatedSide
sides_by name = map (λ w. rated name (side_by w.role) w.from.bus w.from.volts)

-- the sides that a transformer has at buses: high, low, third
abbrev pub rated_sides_of : Transformer → List RatedSide
rated_sides_of t = sides_by t.name (windings_of t)

-- a voltage is under nine tenths of the measure, or the measure under nine tenths of it
abbrev pub differs : (volts measure : ℕ) → Bool
differs volts measure = nat_lt (volts * 10) (9 * measure) || nat_lt (10 * measure) (volts * 9)

-- what is told of a side at a bus with this measure; a bus without a measure has had no side yet
abbrev pub volts_told : RatedSide → Option ℕ → List Finding
volts_told s None = []
volts_told s (Some measure) = if differs s.volts measure then Volts s.name s.side s.volts measure ∷ [] else []

-- the measure of a bus
abbrev pub measure_at : List (Option ℕ) → (bus : ℕ) → Option ℕ
measure_at measures bus = slice_index_or measures bus None

-- the measures after a side: it is the measure of its bus where it is the first there
abbrev pub measured_by : List (Option ℕ) → RatedSide → Option ℕ → List (Option ℕ)
measured_by measures s None = slice_set measures s.bus (Some s.volts)
measured_by measures s (Some measure) = measures

abbrev pub measures_with : List (Option ℕ) → RatedSide → List (Option ℕ)
measures_with measures s = measured_by measures s (measure_at measures s.bus)

-- what is told of these sides, one after another
abbrev pub volts_from : List (Option ℕ) → List RatedSide → List Finding
volts_from measures [] = []
volts_from measures (s ∷ ss) = volts_told s (measure_at measures s.bus) ++ volts_from (measures_with measures s) ss

-- what is told of the voltages of a case
abbrev pub unfit_volts : Lists → List Finding
unfit_volts c = volts_from (replicate (length c.buses) None) (flat_map rated_sides_of c.transformers)
