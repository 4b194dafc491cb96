-- That the text of the mode determines what it shows.
use Rattle.std.specs.Prelude.{◌≡◌, ℤ, List, length, All, FitsSigned}
use mir.Syntax.{w32, w64}
use Rattle.gic_case.specs.Lists.{Lists}
use Rattle.gic_text.specs.Lines.{lines_text}
use Rattle.gic_report.specs.Fits.{HasNames}
use Rattle.gic_volts.specs.VoltsText.{volts_report}

-- a field and voltages that can be shown of a case: one a line, and each number within the range of its type
pub record AreShownOf (case : Lists) (north east : ℤ) (nanovolts : List ℤ) : Type 0 where
  pub count : length nanovolts ≡ length case.lines
  pub north_fits : FitsSigned w32 north
  pub east_fits : FitsSigned w32 east
  pub nanovolts_fit : All (FitsSigned w64) nanovolts

-- equal texts on one case show equal fields and equal voltages
abbrev pub TextDeterminesVolts : Type 0
TextDeterminesVolts = (case : Lists) → HasNames case → (north east : ℤ) (nanovolts : List ℤ) (north' east' : ℤ) (nanovolts' : List ℤ) →
    AreShownOf case north east nanovolts → AreShownOf case north' east' nanovolts' →
    lines_text (volts_report case.lines north east nanovolts) ≡ lines_text (volts_report case.lines north' east' nanovolts') →
    (north ≡ north') × (east ≡ east') × (nanovolts ≡ nanovolts')
