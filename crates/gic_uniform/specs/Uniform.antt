-- The voltages that one field for all zones of a case induces.
use Rattle.std.specs.Prelude.{ℕ, ℤ}
use Rattle.gic_case.specs.Lists.{Lists}
use Rattle.gic_model.specs.Voltages.{number_at}
use Rattle.gic_induce.specs.LineVolts.{volts_of}
pub use Rattle.gic_induce.specs.LineVolts.{uniform_field}
use Rattle.gic_winding.specs.ElementList.{elements_of}

-- the voltages in nanovolts that one field for all zones induces in the elements of the case, by their places
abbrev pub uniform_volts : Lists → ℤ → ℤ → ℕ → ℤ
uniform_volts case north east = number_at (volts_of case (uniform_field case north east) (elements_of case).list)
