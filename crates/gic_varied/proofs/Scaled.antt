-- A solution times a whole number, and lifts in units of several nanovolts.
use Rattle.std.proofs.Common.{◌≡◌, ℕ, ◌*◌, Bool, true, false, cond, ◌==◌, List, [], ◌∷◌, ℤ, pos, ◌+ℤ◌, ◌-ℤ◌, ◌*ℤ◌, neg_ℤ, ◌≤ℤ◌, arith, refl, ap, sym, ◌∙◌}
use lib.IntN.{*ℤ-zero}
use borrow.Author.Differences.{same_in}
use Rattle.std.specs.List.{AllByRecursion}
use Rattle.gic_base.proofs.Each.{weaker}
use Rattle.gic_fixed.proofs.Integers.{linear, up-*ℤ, down-*ℤ, *ℤ-≤ℤ, *ℤ-+ℤ, *ℤ--ℤ, *ℤ-neg_ℤ, *ℤ_left_comm}
use Rattle.gic_fixed.proofs.Sums.{sum_of-same, sum_of-*ℤ}
use Rattle.gic_model.specs.declared.parts.Element.{Element}
use Rattle.gic_model.specs.Standing.{elements_at, leaving}
use Rattle.gic_model.specs.Sums.{Placed, sum_of}
use Rattle.gic_model.specs.Solution.{Solution, IsOhm}
use Rattle.gic_model.specs.Standing.{value_at}
use Rattle.gic_model.proofs.EndValues.{value_times}
use Rattle.gic_varied.specs.Ranges.{Range}
use Rattle.gic_varied.specs.Lifts.{IsLift}
use Rattle.gic_varied.proofs.Regrounded.{placed_with, SolvesWith}

abbrev pub scaled : ℕ → Solution → Solution
scaled c s = record { potential = λ m. pos c *ℤ s.potential m; current = λ place. pos c *ℤ s.current place; denominator = s.denominator }

nothing_scaled : (c : ℕ) (z : ℤ) → z ≡ pos 0 → pos c *ℤ z ≡ pos 0
nothing_scaled c z h = ap (λ y. pos c *ℤ y) h ∙ *ℤ-zero (pos c)

ohm_scaled : (c : ℕ) (volts : ℕ → ℤ) (s : Solution) (p : Placed) → IsOhm volts s p → IsOhm (λ q. pos c *ℤ volts q) (scaled c s) p
ohm_scaled c volts s p ohm =
    let w = pos (p.1.times * 1000000) in
    let fall = s.potential p.1.from.0 -ℤ value_at s.potential p.1.to in
    let left = *ℤ_left_comm (pos p.1.micro_ohm) (pos c) (s.current p.0) in
    let there = value_times (pos c) s.potential p.1.to in
    let split = *ℤ--ℤ (pos c) (s.potential p.1.from.0) (value_at s.potential p.1.to) in
    let volt = *ℤ_left_comm (pos s.denominator) (pos c) (volts p.0) in
    let sum = *ℤ-+ℤ (pos c) fall (pos s.denominator *ℤ volts p.0) in
    let inner : pos c *ℤ s.potential p.1.from.0 -ℤ value_at (λ m. pos c *ℤ s.potential m) p.1.to +ℤ pos s.denominator *ℤ (pos c *ℤ volts p.0) ≡ pos c *ℤ (fall +ℤ pos s.denominator *ℤ volts p.0) = omega (arith, linear) in
    left ∙ ap (λ z. pos c *ℤ z) ohm ∙ *ℤ_left_comm (pos c) w (fall +ℤ pos s.denominator *ℤ volts p.0) ∙ sym (ap (λ z. w *ℤ z) inner)

leaving_scaled : (c k : ℕ) (e : Element) (z : ℤ) → leaving k e (pos c *ℤ z) ≡ pos c *ℤ leaving k e z
leaving_scaled c k e z = by (e.from.0 == k)
  where
    by : (b : Bool) → cond b (pos c *ℤ z) (neg_ℤ (pos c *ℤ z)) ≡ pos c *ℤ cond b z (neg_ℤ z)
    by true = refl
    by false = sym (*ℤ-neg_ℤ (pos c) z)

pub solves_scaled : (standing : List Placed) (ohm : Element → ℕ) (c : ℕ) (volts : ℕ → ℤ) (s : Solution) → SolvesWith standing ohm volts s →
    SolvesWith standing ohm (λ q. pos c *ℤ volts q) (scaled c s)
solves_scaled standing ohm c volts s h = record {
  denominator_above_0 = h.denominator_above_0;
  by_ohm = weaker (λ p. IsOhm volts s (placed_with ohm p)) (λ p. IsOhm (λ q. pos c *ℤ volts q) (scaled c s) (placed_with ohm p)) (λ p law. ohm_scaled c volts s (placed_with ohm p) law) standing h.by_ohm;
  none_if_open = λ place not_in. nothing_scaled c (s.current place) (h.none_if_open place not_in);
  kirchhoff = λ k live.
      sum_of-same (λ p. leaving k p.1 (pos c *ℤ s.current p.0)) (λ p. pos c *ℤ leaving k p.1 (s.current p.0)) (elements_at standing k) (each k (elements_at standing k)) ∙
      sum_of-*ℤ (pos c) (λ p. leaving k p.1 (s.current p.0)) (elements_at standing k) ∙
      nothing_scaled c (sum_of (λ p. leaving k p.1 (s.current p.0)) (elements_at standing k)) (h.kirchhoff k live);
}
  where
    each : (k : ℕ) (ps : List Placed) → AllByRecursion (λ p. leaving k p.1 (pos c *ℤ s.current p.0) ≡ pos c *ℤ leaving k p.1 (s.current p.0)) ps
    each k [] = tt
    each k (p ∷ ps) = (leaving_scaled c k p.1 (s.current p.0), each k ps)

-- products in another order
volt_in : (c d l : ℕ) (u : ℤ) → pos (c * d * l) *ℤ u ≡ pos (d * l) *ℤ (pos c *ℤ u)
volt_in c d l u = same_in _ _ (simp (up-*ℤ, down-*ℤ) (omega arith))

volt_in_twice : (c d r l : ℕ) (u : ℤ) → pos (c * d * r * l) *ℤ u ≡ pos (d * r * l) *ℤ (pos c *ℤ u)
volt_in_twice c d r l u = same_in _ _ (simp (up-*ℤ, down-*ℤ) (omega arith))

-- a lift over a greater denominator is a greater lift
pub lift_scaled : (range : Range) (ohm : ℕ) (p : ℤ) (c d : ℕ) (u : ℤ) → IsLift range ohm p (c * d) u → IsLift range ohm p d (pos c *ℤ u)
lift_scaled range ohm p c d u h = record {
  not_above_0 = not_above;
  to_most =
      let made = h.to_most in
      let left = *ℤ-neg_ℤ (pos (c * d * ohm)) u in
      let inside = volt_in c d ohm u in
      let right = *ℤ-neg_ℤ (pos (d * ohm)) (pos c *ℤ u) in
      omega (arith, linear);
  to_least =
      let made = h.to_least in
      let left = *ℤ-neg_ℤ (pos (c * d * ohm * range.least)) u in
      let inside = volt_in_twice c d ohm range.least u in
      let right = *ℤ-neg_ℤ (pos (d * ohm * range.least)) (pos c *ℤ u) in
      omega (arith, linear);
}
  where
    not_above : (pos c *ℤ u) ≤ℤ pos 0
    not_above =
        let times = *ℤ-≤ℤ c u (pos 0) h.not_above_0 in
        let none = *ℤ-zero (pos c) in
        omega (arith, linear)
