-- How great the effective current of a varied solution can be, and where it is 0.
use Rattle.std.proofs.Common.{◌≡◌, ℕ, ◌+◌, ◌*◌, ◌<◌, ◌≤◌, ◌==◌, ◌||◌, Bool, true, false, List, [], ◌∷◌, length, get_or, map, ℤ, pos, ◌*ℤ◌, unsigned_abs, arith, refl, ap, sym, subst, ◌∙◌, inl, inr, eqb-true}
use Rattle.std.proofs.lemmas.Bool.{cases_Bool}
use Rattle.std.proofs.lemmas.Int.{unsigned_abs-mul}
use Rattle.std.proofs.Math.Nat.{mul-le-mul, mul-le-mul_left}
use Rattle.std.specs.List.{AllByRecursion, enumerate_from}
use lib.IntN.{*ℤ_comm, *ℤ-zero}
use Rattle.gic_base.specs.declared.id.ElementId.{ElementId}
use Rattle.gic_case.specs.declared.item.Transformer.{Transformer}
use Rattle.gic_case.specs.declared.winding.Winding.{Winding}
use Rattle.gic_case.specs.Lists.{Lists}
use Rattle.gic_case.specs.Sound.{IsSoundTransformer}
use Rattle.gic_case.specs.Windings.{windings_of}
use Rattle.gic_case.proofs.SoundWindings.{few_windings}
use Rattle.gic_effective.specs.Weighted.{effective_numerator}
use Rattle.gic_effective.proofs.Weighings.{weights_at_most}
use Rattle.gic_fixed.proofs.Integers.{linear}
use Rattle.gic_fixed.proofs.Sums.{unsigned_abs-sum_of}
use Rattle.gic_model.specs.declared.parts.Element.{Element}
use Rattle.gic_model.specs.Solution.{Solution}
use Rattle.gic_model.specs.Standing.{is_standing}
use Rattle.gic_model.specs.Sums.{Placed, sum_of}
use Rattle.gic_net.proofs.Kept.{IsIn}
use Rattle.gic_net.specs.Net.{no_element}
use Rattle.gic_varied.specs.Grounds.{is_ground}
use Rattle.gic_winding.specs.ElementList.{elements_of}
use Rattle.gic_winding.specs.Weights.{weight_of, weighted_windings}
use Rattle.gic_winding.proofs.Around.{prefix_of}
use Rattle.gic_winding.proofs.Weighted.{weighed, weighted_there, length-weighted_from}
use Rattle.gic_grounds.proofs.Weighing.{its_none}
use Rattle.gic_grounds.specs.Effect.{HasNoPart}

-- what is known of each standing element that is no ground is known at its place
pub bounded_at : (list : List Element) (s : Solution) (m : ℕ) (standing : List Placed) → AllByRecursion (λ p. IsIn list p × (is_ground p.1 ≡ false → unsigned_abs (s.current p.0) ≤ m)) standing →
    (place : ℕ) → is_ground (get_or list place no_element) ≡ false → is_standing standing place ≡ true → unsigned_abs (s.current place) ≤ m
bounded_at list s m [] known place none stands = absurd (no_way stands)
  where
    no_way : false ≡ true → ⊥
    no_way e = cc
bounded_at list s m (p ∷ ps) known place none stands = by (p.0 == place) refl (bounded_at list s m ps known.1 place none) stands
  where
    by : (b : Bool) → (p.0 == place) ≡ b → (is_standing ps place ≡ true → unsigned_abs (s.current place) ≤ m) →
        (b || is_standing ps place) ≡ true → unsigned_abs (s.current place) ≤ m
    by true is rest any =
        let same = eqb-true p.0 place is in
        let element : is_ground p.1 ≡ false = ap is_ground known.0.0.1 ∙ ap (λ (n : ℕ). is_ground (get_or list n no_element)) same ∙ none in
        subst (λ (n : ℕ). unsigned_abs (s.current n) ≤ m) same (known.0.1 element)
    by false is rest any = rest any

-- each weighted current of windings that stand one after another is at most the greatest weight times the greatest current
each_few : (weight : Winding → ℕ) (most m first : ℕ) (s : Solution) (ws : List Winding) → AllByRecursion (λ w. weight w ≤ most) ws →
    ((place : ℕ) → first ≤ place → place < first + length ws → unsigned_abs (s.current place) ≤ m) →
    AllByRecursion (λ (v : ElementId × ℕ). unsigned_abs (pos v.1 *ℤ s.current v.0.0) ≤ most * m) (map (λ p. weighed weight p.0 p.1) (enumerate_from first ws))
each_few weight most m first s [] h few = tt
each_few weight most m first s (w ∷ ws) h few =
    let product : unsigned_abs (pos (weight w) *ℤ s.current first) ≡ weight w * unsigned_abs (s.current first) = unsigned_abs-mul (pos (weight w)) (s.current first) in
    let below : weight w * unsigned_abs (s.current first) ≤ most * m = mul-le-mul h.0 (few first (omega arith) (omega arith)) in
    (omega (arith, product, below), each_few weight most m (first + 1) s ws h.1 (λ place from to. few place (omega (arith, from)) (omega (arith, to))))

-- the effective numerator of a transformer is at most three times its high voltage times the greatest of their currents
pub numerator_bounded : (c : Lists) (t : ℕ) (row : Transformer) (s : Solution) (m : ℕ) → (inside : t < length c.transformers) → (at : row ≡ get_or c.transformers t row) → IsSoundTransformer c row →
    ((place : ℕ) → is_ground (get_or (elements_of c).list place no_element) ≡ false → unsigned_abs (s.current place) ≤ m) →
    unsigned_abs (effective_numerator c s t) ≤ 3 * (row.high_volts * m)
numerator_bounded c t row s m inside at sound few =
    let first = length (prefix_of c t) in
    let there = weighted_there c t row inside at in
    let each = each_few (weight_of row) row.high_volts m first s (windings_of row) (weights_at_most c row sound) (λ place from to. few place (its_none c t row inside at place from to)) in
    let sum = unsigned_abs-sum_of (λ (w : ElementId × ℕ). pos w.1 *ℤ s.current w.0.0) (row.high_volts * m) (weighted_windings c t)
    (subst (AllByRecursion (λ (v : ElementId × ℕ). unsigned_abs (pos v.1 *ℤ s.current v.0.0) ≤ row.high_volts * m)) (sym there) each) in
    let same = ap length there in
    let count : length (weighted_windings c t) ≤ 3 = omega (arith, same, length-weighted_from row first, few_windings row.high_volts row.kind) in
    let most : row.high_volts * m * length (weighted_windings c t) ≤ row.high_volts * m * 3 = mul-le-mul_left (row.high_volts * m) count in
    omega (arith, sum, most)

-- a product is 0 where the weight is
no_weight : (n : ℕ) (z : ℤ) → n ≡ 0 → pos n *ℤ z ≡ pos 0
no_weight n z e = ap (λ (m : ℕ). pos m *ℤ z) e ∙ *ℤ_comm (pos 0) z ∙ *ℤ-zero z

-- and where the current is
no_current : (n : ℕ) (z : ℤ) → z ≡ pos 0 → pos n *ℤ z ≡ pos 0
no_current n z e = ap (λ (y : ℤ). pos n *ℤ y) e ∙ *ℤ-zero (pos n)

-- windings that have no part add up to nothing
pub nothing_summed : (standing : List Placed) (s : Solution) → ((place : ℕ) → is_standing standing place ≡ false → s.current place ≡ pos 0) →
    (ws : List (ElementId × ℕ)) → AllByRecursion (HasNoPart standing) ws → sum_of (λ w. pos w.1 *ℤ s.current w.0.0) ws ≡ pos 0
nothing_summed standing s none [] h = refl
nothing_summed standing s none (w ∷ ws) h =
    let rest = nothing_summed standing s none ws h.1 in
    let first : pos w.1 *ℤ s.current w.0.0 ≡ pos 0 = elim (cases_Bool (is_standing standing w.0.0)) [
      | inl stands ↦ no_weight w.1 (s.current w.0.0) (h.0 stands)
      | inr out ↦ no_current w.1 (s.current w.0.0) (none w.0.0 out)
    ] in
    omega (arith, linear, first, rest)
