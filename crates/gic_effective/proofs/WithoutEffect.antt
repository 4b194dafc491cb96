-- A unit of a kind without effect has no winding with a weight.
use Rattle.std.proofs.Common.{◌≡◌, ℕ, ◌+◌, ◌<◌, false, List, [], ◌∷◌, length, map, if◌then◌else◌, ap, sym, subst}
use Rattle.std.proofs.lemmas.List.{get_or_default}
use Rattle.std.proofs.lemmas.List.Elements.{All-from_recursion}
use Rattle.std.specs.List.{AllByRecursion, enumerate_from}
use Rattle.gic_case.specs.declared.winding.Winding.{Winding}
use Rattle.gic_case.specs.Lists.{Lists, has_effect}
use Rattle.gic_case.specs.Windings.{windings_of, volts_across}
use Rattle.gic_model.specs.Sums.{Placed}
use Rattle.gic_winding.specs.Weights.{weight_of, weighted_windings, transformer_at, no_transformer}
use Rattle.gic_winding.proofs.Around.{prefix_of}
use Rattle.gic_winding.proofs.Weighted.{weighted_there}
use Rattle.gic_effective.specs.RightView.{HasNoEffect}
use Rattle.gic_effective.proofs.Weighings.{HasNone}

-- windings that have no weight
none_weighed : (standing : List Placed) (weight : Winding → ℕ) → ((w : Winding) → weight w ≡ 0) → (first : ℕ) (ws : List Winding)
    → AllByRecursion (HasNone standing) (map (λ p. (record { 0 = p.0 }, weight p.1)) (enumerate_from first ws))
none_weighed standing weight zeroed first [] = tt
none_weighed standing weight zeroed first (w ∷ ws) = ((λ stands. zeroed w), none_weighed standing weight zeroed (first + 1) ws)

pub without_effect : (case : Lists) (standing : List Placed) (t : ℕ) → t < length case.transformers → has_effect (transformer_at case t).kind ≡ false → HasNoEffect case standing t
without_effect case standing t inside none =
    let row = transformer_at case t in
    let there = weighted_there case t row inside (get_or_default case.transformers t no_transformer row inside) in
    All-from_recursion (HasNone standing) (weighted_windings case t)
    (subst (AllByRecursion (HasNone standing)) (sym there) (none_weighed standing (weight_of row) (λ w. ap (λ has. if has then volts_across w else 0) none) (length (prefix_of case t)) (windings_of row)))
