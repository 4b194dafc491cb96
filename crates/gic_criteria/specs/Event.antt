-- The table of events: the benchmark event of NERC TPL-007, and a supplemental one that is set after that standard's and is this project's own.
use Rattle.std.specs.Prelude.{ℕ, ℤ, pos}
use Rattle.gic_criteria.specs.declared.event.Event.{Event}
use Rattle.gic_criteria.specs.declared.event.Event.TheVariants.{Benchmark, Supplemental}

-- the effective current from which a transformer is assessed, in milliamperes per phase
abbrev pub threshold_of : Event → ℕ
threshold_of Benchmark = 75000
threshold_of Supplemental = 85000

-- the peak of the field in mV/km
abbrev pub field_of : Event → ℤ
field_of Benchmark = pos 8000
field_of Supplemental = pos 12000
