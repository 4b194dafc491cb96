-- The windings of a transformer, with their weights in its effective current.
use Rattle.std.specs.Prelude.{ℕ, List, [], ◌∷◌, slice_index_or, None, if◌then◌else◌}
use Rattle.std.specs.List.{filter, enumerate_from}
use Rattle.gic_base.specs.declared.id.ElementId.{ElementId}
use Rattle.gic_case.specs.declared.kind.Kind.TheVariants as kinds
use Rattle.gic_case.specs.declared.item.Transformer.{Transformer}
use Rattle.gic_case.specs.declared.winding.Winding.{Winding}
use Rattle.gic_case.specs.Lists.{Lists, has_effect}
use Rattle.gic_case.specs.Windings.{windings_of, volts_across}
use Rattle.gic_model.specs.declared.parts.Item.TheVariants as item
use Rattle.gic_model.specs.Network.{Network}
use Rattle.gic_model.specs.Standing.{is_item}
use Rattle.gic_model.specs.Sums.{Placed}
use Rattle.gic_winding.specs.ElementList.{elements_of}

-- the weight of a winding of a transformer, in V: the rated voltage across it, where the core has an effective current here, and else 0
abbrev pub weight_of : Transformer → Winding → ℕ
weight_of t w = if has_effect t.kind then volts_across w else 0

-- the elements whose item is the transformer at a place, in their order
abbrev pub windings_at : Network → (transformer : ℕ) → List Placed
windings_at network transformer = filter (λ p. is_item p.1.item (item.Transformer transformer)) (enumerate_from 0 network.list)

-- what a list is said to have past its end
abbrev pub no_transformer : Transformer
no_transformer = record { name = []; high_volts = 0; kind = kinds.DeltaDelta; neutral = None }

-- the transformer at a place
abbrev pub transformer_at : Lists → ℕ → Transformer
transformer_at c transformer = slice_index_or c.transformers transformer no_transformer

-- the places of these elements, each with the weight of the winding whose turn it is
abbrev pub weighed_by : (weight : Winding → ℕ) → List Placed → List Winding → List (ElementId × ℕ)
weighed_by weight [] ws = []
weighed_by weight (p ∷ ps) [] = []
weighed_by weight (p ∷ ps) (w ∷ ws) = (record { 0 = p.0 }, weight w) ∷ weighed_by weight ps ws

-- its elements, which are its windings in their order, each with its weight
abbrev pub weighted_windings : Lists → ℕ → List (ElementId × ℕ)
weighted_windings c transformer =
    let t = transformer_at c transformer in
    weighed_by (weight_of t) (windings_at (elements_of c) transformer) (windings_of t)
