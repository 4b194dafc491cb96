-- What the monitors of the program print.
use Rattle.std.specs.Prelude.{[], ◌∷◌, Bool, true, false}
use Rattle.gic_ask.specs.declared.request.Asked.{Asked}
use Rattle.gic_ask.specs.declared.request.Asked.TheVariants.{Study}
use Rattle.gic_monitor.specs.DwellText.{dwell_text}
use Rattle.gic_monitor.specs.EarthText.{earth_text}
use Rattle.gic_monitor.specs.LossText.{volt_text}
use Rattle.gic_study.specs.Modes.{Plans}

-- those of dwells, of earthings, and of losses by volts with scale 1, in this order
abbrev pub program_plans : Plans
program_plans roster views = dwell_text roster views ∷ earth_text roster views ∷ volt_text 1 roster views ∷ []

-- monitors see the steps of a study, and of nothing else
abbrev pub is_study : Asked → Bool
is_study (Study asked) = true
is_study _ = false
