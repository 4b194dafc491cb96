-- Zones at whose latitude L, in degrees, the alpha of the table is below the lesser of 1 and 0.001 e^(0.115 L): a verdict `below` may be too good there.
use Rattle.std.specs.Prelude.{ℕ, Bool, ◌||◌, List, [], ◌∷◌, if◌then◌else◌}
use Rattle.std.specs.Int.{is_in_range}
use Rattle.gic_case.specs.declared.scaling.Scaling.{Scaling}
use Rattle.gic_case.specs.declared.scaling.Scaling.TheVariants as scalings
use Rattle.gic_case.specs.ZoneView.{ZoneView}
use Rattle.gic_review.specs.declared.findings.finding.Finding.{Finding}
use Rattle.gic_review.specs.declared.findings.finding.Finding.TheVariants.{Alpha}

-- the latitudes, in hundredths of a degree, both ends of each range included
abbrev pub has_low_alpha : (latitude : ℕ) → Bool
has_low_alpha latitude = is_in_range 4960 5000 latitude || is_in_range 5563 5600 latitude || is_in_range 5697 5700 latitude

-- a zone that is given by one number has no latitude
abbrev pub low_alpha_of : List ℕ → Scaling → List Finding
low_alpha_of name (scalings.Earth latitude beta) = if has_low_alpha latitude then Alpha name latitude ∷ [] else []
low_alpha_of name (scalings.Factor thousandths) = []

abbrev pub low_alpha_told : ZoneView → List Finding
low_alpha_told z = low_alpha_of z.name z.scaling
