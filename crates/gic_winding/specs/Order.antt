-- Where the windings of a transformer are in the element list.
use Rattle.std.specs.Prelude.{ℕ, Bool, true, false, nat_lt, List, map}
use Rattle.std.specs.List.{enumerate_from}
use Rattle.gic_base.specs.declared.id.ElementId.{ElementId}
use Rattle.gic_case.specs.declared.item.Transformer.{Transformer}
use Rattle.gic_case.specs.Windings.{windings_of}
use Rattle.gic_model.specs.declared.parts.Item.{Item}
use Rattle.gic_model.specs.declared.parts.Item.TheVariants as item
use Rattle.gic_winding.specs.Weights.{weight_of}

-- whether the elements of an item come before the windings of the transformer at a place
abbrev pub comes_before : Item → (transformer : ℕ) → Bool
comes_before (item.Ground place) transformer = true
comes_before (item.Line place) transformer = true
comes_before (item.Transformer place) transformer = nat_lt place transformer
comes_before (item.Neutral place) transformer = false

-- the windings of a transformer with their weights, where the first of them has this place
abbrev pub weighted_from : Transformer → (first : ℕ) → List (ElementId × ℕ)
weighted_from t first = map (λ p. (record { 0 = p.0 }, weight_of t p.1)) (enumerate_from first (windings_of t))
