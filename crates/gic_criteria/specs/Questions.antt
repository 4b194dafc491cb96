-- What is asked where words say nothing.
use Rattle.std.specs.Prelude.{pos}
use Rattle.gic_criteria.specs.declared.event.Event.TheVariants.{Benchmark}
use Rattle.gic_criteria.specs.declared.asked.Criteria.{Criteria}
use Rattle.gic_criteria.specs.declared.asked.UniformField.{UniformField}

-- where no field is given
abbrev pub no_uniform_field : UniformField
no_uniform_field = record { north = pos 0; east = pos 0 }

-- where no criteria are given: 100 mV or mA, and the benchmark event
abbrev pub usual_criteria : Criteria
usual_criteria = record { width = 100; event = Benchmark }
