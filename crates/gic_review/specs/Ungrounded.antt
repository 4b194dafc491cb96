-- Substations without a ground, to which windings run.
use Rattle.std.specs.Prelude.{ℕ, Bool, true, false, ◌&&◌, List, [], ◌∷◌, flat_map, is_none, if◌then◌else◌}
use Rattle.std.specs.List.{list_any, enumerate_from}
use Rattle.gic_case.specs.declared.item.Substation.{Substation}
use Rattle.gic_model.specs.declared.parts.Item.{Item}
use Rattle.gic_model.specs.declared.parts.Item.TheVariants as item
use Rattle.gic_model.specs.declared.parts.Element.{Element}
use Rattle.gic_model.specs.Network.{ends_at}
use Rattle.gic_review.specs.declared.findings.finding.Finding.{Finding}
use Rattle.gic_review.specs.declared.findings.finding.Finding.TheVariants.{Ungrounded}

-- the item of a winding or of a neutral resistor
abbrev pub is_of_transformer : Item → Bool
is_of_transformer (item.Ground place) = false
is_of_transformer (item.Line place) = false
is_of_transformer (item.Transformer place) = true
is_of_transformer (item.Neutral place) = true

-- a winding or a neutral resistor that ends at the node k
abbrev pub is_end_of : Element → (k : ℕ) → Bool
is_end_of e k = is_of_transformer e.item && ends_at e k

-- one of these elements is such
abbrev pub is_winding_end : List Element → (k : ℕ) → Bool
is_winding_end elements k = list_any (λ e. is_end_of e k) elements

abbrev pub ungrounded_told : Substation → (is_end : Bool) → List Finding
ungrounded_told s is_end = if is_none s.ground && is_end then Ungrounded s.name ∷ [] else []

-- the substations without a ground at whose nodes a winding or a neutral resistor ends, in case order
abbrev pub ungrounded_of : List Substation → List Element → List Finding
ungrounded_of substations elements = flat_map (λ p. ungrounded_told p.1 (is_winding_end elements p.0)) (enumerate_from 0 substations)
