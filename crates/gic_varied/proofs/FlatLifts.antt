-- One voltage at all grounds lifts all nodes alike: a flat lift, over potentials that bounds hold at the grounds of a corner.
use Rattle.std.proofs.Common.{◌≡◌, ℕ, ◌+◌, ◌-◌, ◌*◌, ◌≤◌, Bool, true, false, cond, ◌==◌, List, [], ◌∷◌, ℤ, pos, ◌+ℤ◌, ◌-ℤ◌, ◌*ℤ◌, neg_ℤ, ◌≤ℤ◌, arith, refl, ap, sym, subst, ◌∙◌, eq-eqb, ne_eqb}
use lib.IntN.{*ℤ_comm, *ℤ-zero}
use Rattle.std.proofs.Math.IntN.{*ℤ-one}
use Rattle.std.specs.List.{AllByRecursion, enumerate_from}
use Rattle.std.proofs.lemmas.List.Elements.{recursion_from_All, All-from_recursion}
use Rattle.std.proofs.Math.Nat.{mul-le-mul_right}
use Rattle.gic_base.proofs.Each.{weaker}
use Rattle.gic_fixed.proofs.Integers.{linear, *ℤ-≤ℤ}
use Rattle.gic_fixed.proofs.Sums.{sum_of-same}
use Rattle.gic_model.specs.declared.parts.End.{End}
use Rattle.gic_model.specs.declared.parts.End.TheVariants.{Node, Earth}
use Rattle.gic_model.specs.declared.parts.Element.{Element}
use Rattle.gic_model.specs.declared.parts.Item.{Item}
use Rattle.gic_model.specs.Earthing.{is_earth}
use Rattle.gic_model.specs.Network.{Network}
use Rattle.gic_model.specs.Solution.{Solution, IsOhm}
use Rattle.gic_model.specs.Standing.{standing_elements, elements_at, value_at, leaving}
use Rattle.gic_model.specs.Sums.{Placed}
use Rattle.gic_model.proofs.Members.{kept, both}
use Rattle.gic_varied.specs.Bounds.{AreModest}
use Rattle.gic_varied.specs.Corners.{Corner, corner_ohm}
use Rattle.gic_varied.specs.Grounds.{is_ground}
use Rattle.gic_varied.specs.Lifts.{IsLift, AreLifts}
use Rattle.gic_varied.specs.Ranges.{Range, Ranges, AreInRanges, IsInRange}
use Rattle.gic_varied.proofs.Intervals.{makes_up_most, nothing_most}
use Rattle.gic_varied.proofs.Regrounded.{placed_with, SolvesWith}
use Rattle.gic_varied.proofs.Tellegen.{sum_of_zeros}

-- over plain numbers: a voltage of 20 b lifts over potentials up to b
lift_of_twenty : (range : Range) (b d : ℕ) (z : ℤ) → range.least ≤ range.most → range.most ≤ 20 * range.least → z ≤ℤ pos (b * d) → IsLift range range.least z d (neg_ℤ (pos (20 * b)))
lift_of_twenty range b d z order modest below =
    let twice : neg_ℤ (neg_ℤ (pos (20 * b))) ≡ pos (20 * b) = omega (arith, linear) in
    record {
      not_above_0 = omega (arith, linear);
      to_most =
          let fall = ap (λ y. y *ℤ z) (difference range.most range.least order) in
          let step = *ℤ-≤ℤ (range.most - range.least) z (pos (b * d)) below in
          let wide : (range.most - range.least) * (b * d) ≤ 20 * range.least * (b * d) = mul-le-mul_right (b * d) (omega arith) in
          let whole = ap (λ y. pos (d * range.least) *ℤ y) twice in
          let turned : 20 * range.least * (b * d) ≡ d * range.least * (20 * b) = omega arith in
          omega (arith, linear);
      to_least =
          let none : pos range.least -ℤ pos range.least ≡ pos 0 = omega (arith, linear) in
          let nothing = ap (λ y. pos range.most *ℤ (y *ℤ z)) none ∙ ap (λ y. pos range.most *ℤ y) (*ℤ_comm (pos 0) z ∙ *ℤ-zero z) ∙ *ℤ-zero (pos range.most) in
          let whole = ap (λ y. pos (d * range.least * range.least) *ℤ y) twice in
          omega (arith, linear);
    }
  where
    difference : (m l : ℕ) → l ≤ m → pos m -ℤ pos l ≡ pos (m - l)
    difference m l h = omega (arith, linear)

-- whether the element at a place is a ground
abbrev pub ground_at : (i : ℕ) → List Element → ℕ → Bool
ground_at i [] place = false
ground_at i (e ∷ es) place = cond (i == place) (is_ground e) (ground_at (i + 1) es place)

pub record IsFound (i : ℕ) (es : List Element) (p : Placed) : Type 0 where
  pub from : i ≤ p.0
  pub is : ground_at i es p.0 ≡ is_ground p.1

found : (i : ℕ) (es : List Element) → AllByRecursion (IsFound i es) (enumerate_from i es)
found i [] = tt
found i (e ∷ es) = (
  record { from = omega arith; is = ap (λ b. cond b (is_ground e) (ground_at (i + 1) es i)) (eq-eqb i i refl) },
  weaker (IsFound (i + 1) es) (IsFound i (e ∷ es))
      (λ p h. let from = h.from in
      record { from = omega arith; is = ap (λ b. cond b (is_ground e) (ground_at (i + 1) es p.0)) (ne_eqb i p.0 (λ same. omega arith)) ∙ h.is })
      (enumerate_from (i + 1) es) (found (i + 1) es),
)

-- one voltage at all grounds of a network
abbrev pub even : Network → (v : ℕ) → ℕ → ℤ
even network v place = cond (ground_at 0 network.list place) (neg_ℤ (pos v)) (pos 0)

pub found_standing : (network : Network) (stands : Item → Bool) → AllByRecursion (IsFound 0 network.list) (standing_elements network stands)
found_standing network stands = kept (λ p. stands p.1.item) (IsFound 0 network.list) (IsFound 0 network.list) (λ p is h. h) (enumerate_from 0 network.list) (found 0 network.list)

-- the potential that it gives everywhere, without a current
abbrev pub flat : (v : ℕ) → Solution
flat v = record { potential = λ k. pos v; current = λ place. pos 0; denominator = 1 }

flat_ohm : (r w v : ℕ) (t : End) (u : ℤ) → u ≡ cond (is_earth t) (neg_ℤ (pos v)) (pos 0) → pos r *ℤ pos 0 ≡ pos w *ℤ (pos v -ℤ value_at (λ k. pos v) t +ℤ pos 1 *ℤ u)
unfolding lib.IntN.one
flat_ohm r w v t u is = *ℤ-zero (pos r) ∙ sym (ap (λ z. pos w *ℤ z) (inner t is) ∙ *ℤ-zero (pos w))
  where
    inner : (t : End) → u ≡ cond (is_earth t) (neg_ℤ (pos v)) (pos 0) → pos v -ℤ value_at (λ k. pos v) t +ℤ pos 1 *ℤ u ≡ pos 0
    inner (Node m) is = let once : pos 1 *ℤ u ≡ u = *ℤ_comm (pos 1) u ∙ *ℤ-one u in omega (arith, linear)
    inner Earth is = let once : pos 1 *ℤ u ≡ u = *ℤ_comm (pos 1) u ∙ *ℤ-one u in omega (arith, linear)

-- the voltage of an element among those that stand
pub even_at : (network : Network) (v : ℕ) (p : Placed) → IsFound 0 network.list p → even network v p.0 ≡ cond (is_ground p.1) (neg_ℤ (pos v)) (pos 0)
even_at network v p h = ap (λ b. cond b (neg_ℤ (pos v)) (pos 0)) h.is

nothing_leaves : (k : ℕ) (ps : List Placed) → AllByRecursion (λ p. leaving k p.1 (pos 0) ≡ pos 0) ps
nothing_leaves k [] = tt
nothing_leaves k (p ∷ ps) = (either (p.1.from.0 == k), nothing_leaves k ps)
  where
    either : (b : Bool) → cond b (pos 0) (neg_ℤ (pos 0)) ≡ pos 0
    either true = refl
    either false = refl

pub solves_flat_by : (network : Network) (stands : Item → Bool) (most : Element → ℕ) (v : ℕ) (volts : ℕ → ℤ) →
    AllByRecursion (λ p. volts p.0 ≡ cond (is_ground p.1) (neg_ℤ (pos v)) (pos 0)) (standing_elements network stands) → SolvesWith (standing_elements network stands) most volts (flat v)
solves_flat_by network stands most v volts are = record {
  denominator_above_0 = omega arith;
  by_ohm = weaker (λ p. volts p.0 ≡ cond (is_ground p.1) (neg_ℤ (pos v)) (pos 0)) (λ p. IsOhm volts (flat v) (placed_with most p))
      (λ p is. flat_ohm (cond (is_ground p.1) (most p.1) p.1.micro_ohm) (p.1.times * 1000000) v p.1.to (volts p.0) is) (standing_elements network stands) are;
  none_if_open = λ place none. refl;
  kirchhoff = λ k live.
      let here = elements_at (standing_elements network stands) k in
      sum_of-same (λ p. leaving k p.1 (pos 0)) (λ p. pos 0) here (nothing_leaves k here) ∙ sum_of_zeros here;
}

pub solves_flat : (network : Network) (stands : Item → Bool) (most : Element → ℕ) (v : ℕ) → SolvesWith (standing_elements network stands) most (even network v) (flat v)
solves_flat network stands most v =
    solves_flat_by network stands most v (even network v)
    (weaker (IsFound 0 network.list) (λ p. even network v p.0 ≡ cond (is_ground p.1) (neg_ℤ (pos v)) (pos 0)) (λ p h. even_at network v p h) (standing_elements network stands) (found_standing network stands))

-- it lifts over a ground at its greatest resistance too, by how far the potential may be below 0
lift_of_twenty_at_most : (range : Range) (b d : ℕ) (z : ℤ) → range.least ≤ range.most → range.most ≤ 20 * range.least → neg_ℤ z ≤ℤ pos (b * d) → IsLift range range.most z d (neg_ℤ (pos (20 * b)))
lift_of_twenty_at_most range b d z order modest above =
    let least = lift_of_twenty range b d (neg_ℤ z) order modest above in
    record {
      not_above_0 = least.not_above_0;
      to_most = nothing_most range.most d z (neg_ℤ (neg_ℤ (pos (20 * b)))) (omega (arith, linear));
      to_least = makes_up_most range.least range.most d z (neg_ℤ (neg_ℤ (pos (20 * b)))) least.to_most;
    }

-- it lifts over a corner of modest ranges, where the potentials are bounded at each ground on the side on which the ground's end of its range doesn't raise it the most
pub flat_lifts : (network : Network) (stands : Item → Bool) (ranges : Ranges) (corner : Corner) (b d : ℕ) (potential : ℕ → ℤ) →
    AreInRanges ranges (corner_ohm ranges corner) (standing_elements network stands) → AreModest ranges (standing_elements network stands) →
    AllByRecursion (λ p. is_ground p.1 ≡ true → cond (corner p.1.from.0) (neg_ℤ (potential p.1.from.0)) (potential p.1.from.0) ≤ℤ pos (b * d)) (standing_elements network stands) →
    AreLifts (standing_elements network stands) ranges (corner_ohm ranges corner) potential d (even network (20 * b))
flat_lifts network stands ranges corner b d potential inside modest below = record {
  elsewhere = All-from_recursion (λ p. is_ground p.1 ≡ false → even network (20 * b) p.0 ≡ pos 0) standing
      (weaker (IsFound 0 network.list) (λ p. is_ground p.1 ≡ false → even network (20 * b) p.0 ≡ pos 0)
      (λ p h other. even_at network (20 * b) p h ∙ ap (λ t. cond t (neg_ℤ (pos (20 * b))) (pos 0)) other) standing (found_standing network stands));
  at_grounds = All-from_recursion (λ p. is_ground p.1 ≡ true → IsLift (ranges p.1) (corner_ohm ranges corner p.1) (potential p.1.from.0) d (even network (20 * b) p.0)) standing
      (weaker (λ p. (IsFound 0 network.list p × Bounded p) × (In p × Modest p))
      (λ p. is_ground p.1 ≡ true → IsLift (ranges p.1) (corner_ohm ranges corner p.1) (potential p.1.from.0) d (even network (20 * b) p.0))
      (λ p h ground. subst (λ u. IsLift (ranges p.1) (corner_ohm ranges corner p.1) (potential p.1.from.0) d u)
      (sym (even_at network (20 * b) p h.0.0 ∙ ap (λ t. cond t (neg_ℤ (pos (20 * b))) (pos 0)) ground))
      (at (ranges p.1) (corner p.1.from.0) (potential p.1.from.0) (h.1.0 ground) (h.1.1 ground) (h.0.1 ground))) standing
      (both (λ p. IsFound 0 network.list p × Bounded p) (λ p. In p × Modest p) standing
      (both (IsFound 0 network.list) Bounded standing (found_standing network stands) below)
      (both In Modest standing (recursion_from_All In standing inside) (recursion_from_All Modest standing modest))));
}
  where
    standing : List Placed
    standing = standing_elements network stands

    Bounded : Placed → Type 0
    Bounded p = is_ground p.1 ≡ true → cond (corner p.1.from.0) (neg_ℤ (potential p.1.from.0)) (potential p.1.from.0) ≤ℤ pos (b * d)

    In : Placed → Type 0
    In p = is_ground p.1 ≡ true → IsInRange (ranges p.1) (corner_ohm ranges corner p.1)

    Modest : Placed → Type 0
    Modest p = is_ground p.1 ≡ true → (ranges p.1).most ≤ 20 * (ranges p.1).least

    at : (range : Range) (t : Bool) (z : ℤ) → IsInRange range (cond t range.most range.least) → range.most ≤ 20 * range.least → cond t (neg_ℤ z) z ≤ℤ pos (b * d) →
        IsLift range (cond t range.most range.least) z d (neg_ℤ (pos (20 * b)))
    at range true z within few h = lift_of_twenty_at_most range b d z within.at_least few h
    at range false z within few h = lift_of_twenty range b d z within.at_most few h
