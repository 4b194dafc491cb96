-- The conductance at a live node, each element's part rounded down.
use Rattle.std.proofs.Common.{◌≡◌, ℕ, ◌≤◌, Bool, true, false, cond, ◌||◌, List, [], ◌∷◌, arith, refl, ap, sym, ◌∙◌}
use Rattle.std.specs.List.{AllByRecursion, filter, list_any, sum_by}
use Rattle.std.proofs.lemmas.List.Sums.{sum_by-cons}
use Rattle.gic_sweep.proofs.Conductances.{floor_part, part_least}
use Rattle.gic_model.specs.declared.parts.Item.{Item}
use Rattle.gic_model.specs.Network.{Network, ends_at}
use Rattle.gic_model.specs.Limits.{IsWithinLimits, IsElementWithin}
use Rattle.gic_model.specs.Sums.{Placed}
use Rattle.gic_model.specs.Standing.{IsLive, standing_elements}
use Rattle.gic_model.specs.Guess.{least_conductance}
use Rattle.gic_model.proofs.Ends.{standing_within}

-- where an element passes the test, those that pass have at least what one of them has
parts_least : (nodes : ℕ) (test : Placed → Bool) (ps : List Placed) → AllByRecursion (λ p. IsElementWithin nodes p.1) ps → list_any test ps ≡ true → 1048 ≤ sum_by floor_part (filter test ps)
parts_least nodes test [] h any = absurd (no_way any)
  where
    no_way : false ≡ true → ⊥
    no_way e = cc
parts_least nodes test (p ∷ ps) h any = by (parts_least nodes test ps h.1) (test p) refl
  where
    by : (list_any test ps ≡ true → 1048 ≤ sum_by floor_part (filter test ps)) → (b : Bool) → test p ≡ b → 1048 ≤ sum_by floor_part (cond b (p ∷ filter test ps) (filter test ps))
    by later true is = omega (arith, part_least nodes p h.0, sum_by-cons floor_part p (filter test ps))
    by later false is = later (sym (ap (λ b. b || list_any test ps) is) ∙ any)

pub conductance_least : (network : Network) (stands : Item → Bool) (k : ℕ) → IsWithinLimits network → IsLive (standing_elements network stands) k → 1048 ≤ least_conductance (standing_elements network stands) k
conductance_least network stands k limits live =
    parts_least network.nodes (λ p. ends_at p.1 k) (standing_elements network stands) (standing_within network stands limits) live
