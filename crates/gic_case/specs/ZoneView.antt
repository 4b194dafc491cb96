-- What a zone is.
use Rattle.std.specs.Prelude.{ℕ, ◌*◌, ◌≤◌, List}
use Rattle.gic_case.specs.Alpha.{alpha_of}
use Rattle.gic_case.specs.declared.scaling.Scaling.{Scaling}
use Rattle.gic_case.specs.declared.scaling.Scaling.TheVariants as scalings

-- its name, and how strong a field is in it
pub record ZoneView : Type 0 where
  pub name : List ℕ
  pub scaling : Scaling

-- the ranges of a scaling: the latitude is geomagnetic, in hundredths of a degree, beta in hundredths, and the one number in thousandths
abbrev pub IsScaling : Scaling → Type 0
IsScaling (scalings.Earth latitude beta) = (latitude ≤ 9000) × (1 ≤ beta) × (beta ≤ 150)
IsScaling (scalings.Factor thousandths) = (1 ≤ thousandths) × (thousandths ≤ 1500)

-- the ranges that every zone keeps
abbrev pub IsZone : ZoneView → Type 0
IsZone z = IsScaling z.scaling

-- a scaling in thousandths: alpha in tenths times beta in hundredths, or the one number
abbrev pub factor_by : Scaling → ℕ
factor_by (scalings.Earth latitude beta) = alpha_of latitude * beta
factor_by (scalings.Factor thousandths) = thousandths

-- that of a zone
abbrev pub factor_of : ZoneView → ℕ
factor_of z = factor_by z.scaling
