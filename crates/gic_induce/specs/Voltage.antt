-- The voltage that a field induces in a part of a line.
use Rattle.std.specs.Prelude.{◌≤◌, ℤ, pos, ◌+ℤ◌, ◌*ℤ◌, unsigned_abs}
use Rattle.gic_base.specs.declared.limits.TheConstants.{MOST_FIELD}
use Rattle.gic_case.specs.ZoneView.{ZoneView, factor_of}
use Rattle.gic_case.specs.declared.part.LinePart.{LinePart}

-- a part of a field is within `MOST_FIELD`, 20000 mV/km
abbrev pub IsFieldWithin : ℤ → Type 0
IsFieldWithin z = unsigned_abs z ≤ MOST_FIELD

-- (north E_n + east E_e) times the factor of its zone, in nanovolts: fields in mV/km, spans in metres, the factor in thousandths
abbrev pub part_nanovolts : LinePart → ZoneView → ℤ → ℤ → ℤ
part_nanovolts part zone north east = ((north *ℤ part.north) +ℤ (east *ℤ part.east)) *ℤ pos (factor_of zone)

-- a part of a span is within 1000000 m
abbrev pub IsSpanWithin : ℤ → Type 0
IsSpanWithin z = unsigned_abs z ≤ 1000000
