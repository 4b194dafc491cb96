-- Delta-delta units at voltages at which others are assessed: they give no element, carry 0, and their verdict is always `outside`.
use Rattle.std.specs.Prelude.{nat_lt, Bool, not, ◌&&◌, List, [], ◌∷◌, if◌then◌else◌}
use Rattle.gic_case.specs.declared.item.Transformer.{Transformer}
use Rattle.gic_case.specs.Windings.{has_windings}
use Rattle.gic_review.specs.declared.findings.finding.Finding.{Finding}
use Rattle.gic_review.specs.declared.findings.finding.Finding.TheVariants.{Outside}
use Rattle.gic_review.specs.declared.findings.outside.TheConstants.{MOST_NOT_ASSESSED}

-- a unit without windings in the network, as a delta-delta one, above 200 kV
abbrev pub is_outside : Transformer → Bool
is_outside t = not (has_windings t) && nat_lt MOST_NOT_ASSESSED t.high_volts

abbrev pub outside_told : Transformer → List Finding
outside_told t = if is_outside t then Outside t.name ∷ [] else []
