-- Sums and multiples of solutions.
use Rattle.std.proofs.Common.{◌≡◌, ℕ, ◌*◌, Bool, true, false, cond, ◌==◌, List, [], ◌∷◌, ℤ, pos, ◌+ℤ◌, ◌-ℤ◌, ◌*ℤ◌, neg_ℤ, arith, refl, ap, sym, ◌∙◌}
use lib.IntN.{*ℤ-zero}
use Rattle.std.specs.List.{AllByRecursion}
use Rattle.gic_fixed.proofs.Divisions.{positive_product}
use Rattle.std.proofs.lemmas.List.Elements.{recursion_from_All, All-from_recursion}
use Rattle.gic_model.specs.declared.parts.End.{End}
use Rattle.gic_model.specs.declared.parts.End.TheVariants.{Node, Earth}
use Rattle.gic_model.specs.declared.parts.Element.{Element}
use Rattle.gic_model.specs.Standing.{value_at, leaving, elements_at}
use Rattle.gic_model.specs.Sums.{Placed, sum_of}
use Rattle.gic_model.specs.Solution.{Solution, IsOhm, IsSolution}
use Rattle.gic_model.specs.SolutionLaws.{combined}
use Rattle.gic_fixed.proofs.Integers.{linear, *ℤ_assoc, *ℤ-+ℤ, *ℤ-neg_ℤ, *ℤ_left_comm}

-- one number of the one solution, and one of the other
abbrev pub mixed : ℤ → ℤ → ℤ → ℤ → ℤ → ℤ → ℤ
mixed c d1 d d2 a b = c *ℤ (d2 *ℤ a) +ℤ d *ℤ (d1 *ℤ b)

-- a factor comes out
mixed-*ℤ : (r c d1 d d2 a b : ℤ) → r *ℤ mixed c d1 d d2 a b ≡ mixed c d1 d d2 (r *ℤ a) (r *ℤ b)
mixed-*ℤ r c d1 d d2 a b =
    *ℤ-+ℤ r (c *ℤ (d2 *ℤ a)) (d *ℤ (d1 *ℤ b)) ∙
    ap (λ z. z +ℤ r *ℤ (d *ℤ (d1 *ℤ b))) (*ℤ_left_comm r c (d2 *ℤ a) ∙ ap (λ z. c *ℤ z) (*ℤ_left_comm r d2 a)) ∙
    ap (λ z. c *ℤ (d2 *ℤ (r *ℤ a)) +ℤ z) (*ℤ_left_comm r d (d1 *ℤ b) ∙ ap (λ z. d *ℤ z) (*ℤ_left_comm r d1 b))

-- sums and differences go through
mixed-+ℤ : (c d1 d d2 a b a' b' : ℤ) → mixed c d1 d d2 (a +ℤ a') (b +ℤ b') ≡ mixed c d1 d d2 a b +ℤ mixed c d1 d d2 a' b'
mixed-+ℤ c d1 d d2 a b a' b' =
    let one = ap (λ z. c *ℤ z) (*ℤ-+ℤ d2 a a') in
    let one_split = *ℤ-+ℤ c (d2 *ℤ a) (d2 *ℤ a') in
    let other = ap (λ z. d *ℤ z) (*ℤ-+ℤ d1 b b') in
    let other_split = *ℤ-+ℤ d (d1 *ℤ b) (d1 *ℤ b') in
    omega (arith, linear)

mixed-neg_ℤ : (c d1 d d2 a b : ℤ) → mixed c d1 d d2 (neg_ℤ a) (neg_ℤ b) ≡ neg_ℤ (mixed c d1 d d2 a b)
mixed-neg_ℤ c d1 d d2 a b =
    let one = ap (λ z. c *ℤ z) (*ℤ-neg_ℤ d2 a) in
    let one_out = *ℤ-neg_ℤ c (d2 *ℤ a) in
    let other = ap (λ z. d *ℤ z) (*ℤ-neg_ℤ d1 b) in
    let other_out = *ℤ-neg_ℤ d (d1 *ℤ b) in
    omega (arith, linear)

-- the voltages, over the product of the denominators
mixed-volts : (c d1 d d2 u1 u2 : ℤ) → mixed c d1 d d2 (d1 *ℤ u1) (d2 *ℤ u2) ≡ (d1 *ℤ d2) *ℤ (c *ℤ u1 +ℤ d *ℤ u2)
mixed-volts c d1 d d2 u1 u2 =
    let sum = *ℤ-+ℤ (d1 *ℤ d2) (c *ℤ u1) (d *ℤ u2) in
    let first = *ℤ_assoc d1 d2 (c *ℤ u1) ∙ ap (λ z. d1 *ℤ z) (*ℤ_left_comm d2 c u1) ∙ *ℤ_left_comm d1 c (d2 *ℤ u1) ∙ ap (λ z. c *ℤ z) (*ℤ_left_comm d1 d2 u1) in
    let second = *ℤ_assoc d1 d2 (d *ℤ u2) ∙ ap (λ z. d1 *ℤ z) (*ℤ_left_comm d2 d u2) ∙ *ℤ_left_comm d1 d (d2 *ℤ u2) in
    omega (arith, linear)

value-mixed : (c d1 d d2 : ℤ) (f g : ℕ → ℤ) (t : End) → value_at (λ m. mixed c d1 d d2 (f m) (g m)) t ≡ mixed c d1 d d2 (value_at f t) (value_at g t)
value-mixed c d1 d d2 f g (Node m) = refl
value-mixed c d1 d d2 f g Earth =
    let one = ap (λ z. c *ℤ z) (*ℤ-zero d2) ∙ *ℤ-zero c in
    let other = ap (λ z. d *ℤ z) (*ℤ-zero d1) ∙ *ℤ-zero d in
    omega (arith, linear)

leaving-mixed : (c d1 d d2 : ℤ) (k : ℕ) (e : Element) (a b : ℤ) → leaving k e (mixed c d1 d d2 a b) ≡ mixed c d1 d d2 (leaving k e a) (leaving k e b)
leaving-mixed c d1 d d2 k e a b = by (e.from.0 == k)
  where
    by : (t : Bool) → cond t (mixed c d1 d d2 a b) (neg_ℤ (mixed c d1 d d2 a b)) ≡ mixed c d1 d d2 (cond t a (neg_ℤ a)) (cond t b (neg_ℤ b))
    by true = refl
    by false = sym (mixed-neg_ℤ c d1 d d2 a b)

pub sum_of-mixed : (c d1 d d2 : ℤ) (k : ℕ) (f g : ℕ → ℤ) (ps : List Placed) →
    sum_of (λ p. leaving k p.1 (mixed c d1 d d2 (f p.0) (g p.0))) ps ≡ mixed c d1 d d2 (sum_of (λ p. leaving k p.1 (f p.0)) ps) (sum_of (λ p. leaving k p.1 (g p.0)) ps)
sum_of-mixed c d1 d d2 k f g [] =
    let one = ap (λ z. c *ℤ z) (*ℤ-zero d2) ∙ *ℤ-zero c in
    let other = ap (λ z. d *ℤ z) (*ℤ-zero d1) ∙ *ℤ-zero d in
    omega (arith, linear)
sum_of-mixed c d1 d d2 k f g (p ∷ ps) =
    let here = leaving-mixed c d1 d d2 k p.1 (f p.0) (g p.0) in
    let rest = sum_of-mixed c d1 d d2 k f g ps in
    let sum = mixed-+ℤ c d1 d d2 (leaving k p.1 (f p.0)) (leaving k p.1 (g p.0)) (sum_of (λ q. leaving k q.1 (f q.0)) ps) (sum_of (λ q. leaving k q.1 (g q.0)) ps) in
    omega (arith, linear)

pub mixed_nothing : (c d1 d d2 a b : ℤ) → a ≡ pos 0 → b ≡ pos 0 → mixed c d1 d d2 a b ≡ pos 0
mixed_nothing c d1 d d2 a b none_a none_b =
    let one = ap (λ z. c *ℤ (d2 *ℤ z)) none_a ∙ ap (λ z. c *ℤ z) (*ℤ-zero d2) ∙ *ℤ-zero c in
    let other = ap (λ z. d *ℤ (d1 *ℤ z)) none_b ∙ ap (λ z. d *ℤ z) (*ℤ-zero d1) ∙ *ℤ-zero d in
    omega (arith, linear)

-- Ohm's law of the mixture, at one element
pub ohm-mixed : (c d : ℤ) (volts1 volts2 : ℕ → ℤ) (one other : Solution) (p : Placed) → IsOhm volts1 one p → IsOhm volts2 other p →
    IsOhm (λ q. c *ℤ volts1 q +ℤ d *ℤ volts2 q) (combined c one d other) p
ohm-mixed c d volts1 volts2 one other p first second =
    let d1 = pos one.denominator in
    let d2 = pos other.denominator in
    let w = pos (p.1.times * 1000000) in
    let r = pos p.1.micro_ohm in
    let a = one.potential p.1.from.0 -ℤ value_at one.potential p.1.to in
    let b = other.potential p.1.from.0 -ℤ value_at other.potential p.1.to in
    let left = mixed-*ℤ r c d1 d d2 (one.current p.0) (other.current p.0) in
    let by_ohm = ap (λ z. mixed c d1 d d2 z (r *ℤ other.current p.0)) first ∙ ap (λ z. mixed c d1 d d2 (w *ℤ (a +ℤ d1 *ℤ volts1 p.0)) z) second in
    let out = sym (mixed-*ℤ w c d1 d d2 (a +ℤ d1 *ℤ volts1 p.0) (b +ℤ d2 *ℤ volts2 p.0)) in
    let split = mixed-+ℤ c d1 d d2 a b (d1 *ℤ volts1 p.0) (d2 *ℤ volts2 p.0) in
    let volts = mixed-volts c d1 d d2 (volts1 p.0) (volts2 p.0) in
    let fall = mixed-+ℤ c d1 d d2 (one.potential p.1.from.0) (other.potential p.1.from.0) (neg_ℤ (value_at one.potential p.1.to)) (neg_ℤ (value_at other.potential p.1.to)) in
    let turned = mixed-neg_ℤ c d1 d d2 (value_at one.potential p.1.to) (value_at other.potential p.1.to) in
    let there = value-mixed c d1 d d2 one.potential other.potential p.1.to in
    let inner : mixed c d1 d d2 (a +ℤ d1 *ℤ volts1 p.0) (b +ℤ d2 *ℤ volts2 p.0) ≡
    (combined c one d other).potential p.1.from.0 -ℤ value_at (combined c one d other).potential p.1.to +ℤ (d1 *ℤ d2) *ℤ (c *ℤ volts1 p.0 +ℤ d *ℤ volts2 p.0) = omega (arith, linear) in
    left ∙ by_ohm ∙ out ∙ ap (λ z. w *ℤ z) inner

pub each_ohm : (c d : ℤ) (volts1 volts2 : ℕ → ℤ) (one other : Solution) (ps : List Placed) → AllByRecursion (IsOhm volts1 one) ps → AllByRecursion (IsOhm volts2 other) ps →
    AllByRecursion (IsOhm (λ q. c *ℤ volts1 q +ℤ d *ℤ volts2 q) (combined c one d other)) ps
each_ohm c d volts1 volts2 one other [] h k = tt
each_ohm c d volts1 volts2 one other (p ∷ ps) h k = (ohm-mixed c d volts1 volts2 one other p h.0 k.0, each_ohm c d volts1 volts2 one other ps h.1 k.1)

pub superposition : (standing : List Placed) (volts1 volts2 : ℕ → ℤ) (one other : Solution) (c d : ℤ) → IsSolution standing volts1 one → IsSolution standing volts2 other →
    IsSolution standing (λ p. c *ℤ volts1 p +ℤ d *ℤ volts2 p) (combined c one d other)
superposition standing volts1 volts2 one other c d first second =
    record {
      denominator_above_0 = positive_product one.denominator other.denominator first.denominator_above_0 second.denominator_above_0;
      ohm = All-from_recursion (IsOhm _ (combined c one d other)) standing (each_ohm c d volts1 volts2 one other standing (recursion_from_All (IsOhm volts1 one) standing first.ohm) (recursion_from_All (IsOhm volts2 other) standing second.ohm));
      none_if_open = λ place not_in. mixed_nothing c (pos one.denominator) d (pos other.denominator) (one.current place) (other.current place) (first.none_if_open place not_in) (second.none_if_open place not_in);
      kirchhoff = λ k live. sum_of-mixed c (pos one.denominator) d (pos other.denominator) k one.current other.current (elements_at standing k) ∙
          mixed_nothing c (pos one.denominator) d (pos other.denominator) _ _ (first.kirchhoff k live) (second.kirchhoff k live);
    }
