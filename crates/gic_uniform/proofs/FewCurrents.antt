-- How great a current of an earthed network can be.
use Rattle.std.proofs.Common.{◌≡◌, ℕ, ◌+◌, ◌*◌, ◌<◌, ◌≤◌, ◌==◌, ◌⊎◌, inl, inr, Bool, true, false, List, [], ◌∷◌, length, ℤ, pos, ◌+ℤ◌, ◌-ℤ◌, ◌*ℤ◌, unsigned_abs, arith, refl, ap, eqb-true}
use Rattle.std.specs.List.{AllByRecursion}
use Rattle.std.proofs.lemmas.Int.{ints, unsigned_abs-mul}
use Rattle.std.proofs.lemmas.List.Elements.{recursion_from_All}
use Rattle.std.proofs.lemmas.List.{get_or_default}
use Rattle.std.proofs.Math.Nat.{mul-le-mul, mul-le-mul_left, mul-le-mul_right}
use Rattle.gic_base.specs.declared.id.ElementId.{ElementId}
use Rattle.gic_base.proofs.Each.{weaker}
use Rattle.gic_case.specs.Lists.{Lists}
use Rattle.gic_case.specs.Windings.{windings_of}
use Rattle.gic_case.proofs.SoundWindings.{few_windings}
use Rattle.gic_case.specs.declared.winding.Winding.{Winding}
use Rattle.gic_fixed.proofs.Sums.{unsigned_abs-sum_of}
use Rattle.gic_model.specs.declared.parts.End.{End}
use Rattle.gic_model.specs.declared.parts.End.TheVariants.{Node, Earth}
use Rattle.gic_model.specs.Limits.{IsElementWithin, AreVolts}
use Rattle.gic_model.specs.Network.{ends_at}
use Rattle.gic_model.specs.Solution.{Solution, IsOhm, IsSolution}
use Rattle.gic_model.specs.Standing.{is_live, IsLive, is_standing, value_at}
use Rattle.gic_model.specs.Sums.{Placed}
use Rattle.gic_model.proofs.Ends.{IsLiveEnd, end_own, from_own, ends_live}
use Rattle.gic_model.proofs.Members.{both, by_any}
use Rattle.gic_winding.specs.ElementList.{elements_of}
use Rattle.gic_winding.specs.Weights.{transformer_at, no_transformer, weight_of, weighed_by, weighted_windings, windings_at}
use Rattle.gic_winding.proofs.Around.{prefix_of}
use Rattle.gic_winding.proofs.Weighted.{weighted_there, length-weighted_from}
use Rattle.gic_effective.specs.Weighted.{effective_numerator}
use Rattle.gic_effective.proofs.Weighings.{AreAtMost}

-- the greatest potential of a network that is earthed within `MOST_WALK`, in nanovolts, and the greatest current, in nanoamperes
abbrev pub most_potential : ℕ
most_potential = 4096 * 60000000000000

abbrev pub most_element_current : ℕ
most_element_current = 3000 * (2 * most_potential + 60000000000000)

-- over plain numbers: what falls over an element and what drives it are limited, and so is its current
few_driven : (a b u : ℤ) (d : ℕ) → unsigned_abs a ≤ most_potential * d → unsigned_abs b ≤ most_potential * d → unsigned_abs u ≤ 60000000000000
    → unsigned_abs (a -ℤ b +ℤ pos d *ℤ u) ≤ (2 * most_potential + 60000000000000) * d
few_driven a b u d p q r =
    let product : unsigned_abs (pos d *ℤ u) ≡ d * unsigned_abs u = unsigned_abs-mul (pos d) u in
    let most : d * unsigned_abs u ≤ d * 60000000000000 = mul-le-mul_left d r in
    let sum = sum_most a b (pos d *ℤ u) in
    omega (arith, p, q, product, most, sum)
  where
    sum_most : (x y z : ℤ) → unsigned_abs (x -ℤ y +ℤ z) ≤ unsigned_abs x + unsigned_abs y + unsigned_abs z
    sum_most x y z = omega (arith, ints)

few_flow : (r times : ℕ) (c x : ℤ) (m : ℕ) → 1000 ≤ r → times ≤ 3 → pos r *ℤ c ≡ pos (times * 1000000) *ℤ x → unsigned_abs x ≤ m → unsigned_abs c ≤ 3000 * m
few_flow r times c x m least few is most =
    let left : unsigned_abs (pos r *ℤ c) ≡ r * unsigned_abs c = unsigned_abs-mul (pos r) c in
    let right : unsigned_abs (pos (times * 1000000) *ℤ x) ≡ times * 1000000 * unsigned_abs x = unsigned_abs-mul (pos (times * 1000000)) x in
    let same = ap unsigned_abs is in
    let low : 1000 * unsigned_abs c ≤ r * unsigned_abs c = mul-le-mul_right (unsigned_abs c) least in
    let high : times * 1000000 * unsigned_abs x ≤ 3000000 * m = mul-le-mul (omega arith) most in
    omega (arith, left, right, same, low, high)

times_few : (times : ℕ) → ((times ≡ 1) ⊎ (times ≡ 3)) → times ≤ 3
times_few times (inl e) = omega arith
times_few times (inr e) = omega arith

-- at a live end, or at earth
value_few : (live : ℕ → Bool) (x : ℕ → ℤ) (m : ℕ) → ((k : ℕ) → live k ≡ true → unsigned_abs (x k) ≤ m) → (t : End) → IsLiveEnd live t → unsigned_abs (value_at x t) ≤ m
value_few live x m few (Node k) alive = few k.0 alive
value_few live x m few Earth alive = omega arith

module _ (nodes : ℕ) (standing : List Placed) (within : AllByRecursion (λ p. IsElementWithin nodes p.1) standing) (volts : ℕ → ℤ) (driven : AreVolts volts)
    (s : Solution) (solves : IsSolution standing volts s) (few : (k : ℕ) → IsLive standing k → unsigned_abs (s.potential k) ≤ most_potential * s.denominator) where
  each_few : AllByRecursion (λ p. unsigned_abs (s.current p.0) ≤ most_element_current * s.denominator) standing
  each_few =
      weaker (λ p. (IsElementWithin nodes p.1 × IsOhm volts s p) × ((m : ℕ) → ends_at p.1 m ≡ true → is_live standing m ≡ true)) (λ p. unsigned_abs (s.current p.0) ≤ most_element_current * s.denominator)
      (λ p h.
      let drive = few_driven (s.potential p.1.from.0) (value_at s.potential p.1.to) (volts p.0) s.denominator
      (few p.1.from.0 (from_own p.1 (is_live standing) h.1))
      (value_few (is_live standing) s.potential (most_potential * s.denominator) few p.1.to (end_own p.1 p.1.to refl (is_live standing) h.1)) (driven p.0) in
      let flow = few_flow p.1.micro_ohm p.1.times (s.current p.0) _ _ h.0.0.least_ohm (times_few p.1.times h.0.0.one_or_three) h.0.1 drive in
      omega (arith, flow)) standing
      (both (λ p. IsElementWithin nodes p.1 × IsOhm volts s p) (λ p. (m : ℕ) → ends_at p.1 m ≡ true → is_live standing m ≡ true) standing
      (both (λ p. IsElementWithin nodes p.1) (IsOhm volts s) standing within (recursion_from_All (IsOhm volts s) standing solves.ohm)) (ends_live standing))

  -- the current at each place
  pub current_few : (place : ℕ) → unsigned_abs (s.current place) ≤ most_element_current * s.denominator
  current_few place = by (is_standing standing place) refl
    where
      by : (b : Bool) → is_standing standing place ≡ b → unsigned_abs (s.current place) ≤ most_element_current * s.denominator
      by true stands =
          by_any (λ p. p.0 == place) (λ p. unsigned_abs (s.current p.0) ≤ most_element_current * s.denominator)
          (λ p is h. let same = ap (λ k. unsigned_abs (s.current k)) (eqb-true p.0 place is) in omega (arith, h, same)) standing each_few stands
      by false out = let none = ap unsigned_abs (solves.none_if_open place out) in omega (arith, none)

-- ---- effective currents

each_weight : (weight : Winding → ℕ) (most m : ℕ) (s : Solution) → ((place : ℕ) → unsigned_abs (s.current place) ≤ m) → (ps : List Placed) (ws : List Winding)
    → AllByRecursion (λ w. weight w ≤ most) ws → AllByRecursion (λ (v : ElementId × ℕ). unsigned_abs (pos v.1 *ℤ s.current v.0.0) ≤ most * m) (weighed_by weight ps ws)
each_weight weight most m s few [] ws h = tt
each_weight weight most m s few (p ∷ ps) [] h = tt
each_weight weight most m s few (p ∷ ps) (w ∷ ws) h =
    let product : unsigned_abs (pos (weight w) *ℤ s.current p.0) ≡ weight w * unsigned_abs (s.current p.0) = unsigned_abs-mul (pos (weight w)) (s.current p.0) in
    let below : weight w * unsigned_abs (s.current p.0) ≤ most * m = mul-le-mul h.0 (few p.0) in
    (omega (arith, product, below), each_weight weight most m s few ps ws h.1)

-- the effective numerator of a transformer
pub numerator_few : (case : Lists) (t : ℕ) (s : Solution) (m : ℕ) → t < length case.transformers → AreAtMost (transformer_at case t)
    → ((place : ℕ) → unsigned_abs (s.current place) ≤ m) → unsigned_abs (effective_numerator case s t) ≤ 3 * ((transformer_at case t).high_volts * m)
numerator_few case t s m inside order few =
    let row = transformer_at case t in
    let sum = unsigned_abs-sum_of (λ (w : ElementId × ℕ). pos w.1 *ℤ s.current w.0.0) (row.high_volts * m) (weighted_windings case t) (each_weight (weight_of row) row.high_volts m s few (windings_at (elements_of case) t) (windings_of row) order) in
    let there = ap length (weighted_there case t row inside (get_or_default case.transformers t no_transformer row inside)) in
    let count : length (weighted_windings case t) ≤ 3 = omega (arith, there, length-weighted_from row (length (prefix_of case t)), few_windings row.high_volts row.kind) in
    let most : row.high_volts * m * length (weighted_windings case t) ≤ row.high_volts * m * 3 = mul-le-mul_left (row.high_volts * m) count in
    omega (arith, sum, most)
