-- Ohm's law at a ground, and resistances of a range.
use Rattle.std.proofs.Common.{◌≡◌, ℕ, suc, ◌*◌, ◌≤◌, Bool, true, false, cond, inl, inr, List, ℤ, pos, negsuc, ◌+ℤ◌, ◌-ℤ◌, ◌*ℤ◌, neg_ℤ, ◌≤ℤ◌, arith, refl, ap, sym, ◌∙◌}
use lib.IntN.{*ℤ-zero}
use Rattle.std.proofs.lemmas.Int.{ints}
use Rattle.std.proofs.lemmas.List.Elements.{recursion_from_All, All-from_recursion}
use Rattle.std.proofs.Math.Nat.{mul-le-mul_right}
use Rattle.gic_base.proofs.Each.{weaker}
use Rattle.gic_model.specs.declared.parts.End.{End}
use Rattle.gic_model.specs.declared.parts.End.TheVariants.{Node, Earth}
use Rattle.gic_model.specs.declared.parts.Element.{Element}
use Rattle.gic_model.specs.Earthing.{is_earth}
use Rattle.gic_model.specs.Standing.{value_at}
use Rattle.gic_model.specs.Sums.{Placed}
use Rattle.gic_model.specs.Solution.{Solution, IsOhm, IsSolution}
use Rattle.gic_fixed.proofs.Integers.{linear, *ℤ-neg_ℤ}
use Rattle.gic_model.proofs.Members.{both}
use Rattle.gic_varied.specs.Grounds.{is_ground, HaveNoGroundVolts}
use Rattle.gic_varied.specs.Ranges.{Range, Ranges, IsInRange, AreInRanges}
use Rattle.gic_varied.specs.Varied.{IsOhmWithin, IsGroundWithin, IsVaried}
use Rattle.gic_varied.proofs.Regrounded.{placed_with, SolvesWith}

-- a greater factor of a number below 0
pub turned_order : (a b n : ℕ) → a ≤ b → (pos b *ℤ negsuc n) ≤ℤ (pos a *ℤ negsuc n)
turned_order a b n h =
    let one : pos a *ℤ negsuc n ≡ neg_ℤ (pos (a * suc n)) = *ℤ-neg_ℤ (pos a) (pos (suc n)) in
    let other : pos b *ℤ negsuc n ≡ neg_ℤ (pos (b * suc n)) = *ℤ-neg_ℤ (pos b) (pos (suc n)) in
    let order : a * suc n ≤ b * suc n = mul-le-mul_right (suc n) h in
    omega (arith, linear)

-- a resistance of a range has Ohm's law within it
pub within_range : (range : Range) (r : ℕ) (current drive : ℤ) → IsInRange range r → pos r *ℤ current ≡ drive → IsOhmWithin range drive current
within_range range r (pos n) drive h ohm =
    let low : range.least * n ≤ r * n = mul-le-mul_right n h.at_least in
    let high : r * n ≤ range.most * n = mul-le-mul_right n h.at_most in
    inl (omega (arith, ints), omega (arith, ints), omega (arith, ints))
within_range range r (negsuc n) drive h ohm =
    let low = turned_order range.least r n h.at_least in
    let high = turned_order r range.most n h.at_most in
    inr (omega (arith, ints), omega (arith, linear), omega (arith, linear))

-- at earth the value is 0
pub value_earth : (x : ℕ → ℤ) (t : End) → is_earth t ≡ true → value_at x t ≡ pos 0
value_earth x (Node m) h = absurd (no_way h)
  where
    no_way : false ≡ true → ⊥
    no_way q = cc
value_earth x Earth h = refl

-- Ohm's law at a ground without a voltage
pub ground_drive : (ohm : Element → ℕ) (volts : ℕ → ℤ) (s : Solution) (p : Placed) → is_ground p.1 ≡ true → volts p.0 ≡ pos 0 → IsOhm volts s (placed_with ohm p) →
    pos (ohm p.1) *ℤ s.current p.0 ≡ pos (p.1.times * 1000000) *ℤ s.potential p.1.from.0
ground_drive ohm volts s p ground none h =
    let resistance : cond (is_ground p.1) (ohm p.1) p.1.micro_ohm ≡ ohm p.1 = ap (λ b. cond b (ohm p.1) p.1.micro_ohm) ground in
    let at_earth = value_earth s.potential p.1.to ground in
    let nothing = ap (λ z. pos s.denominator *ℤ z) none ∙ *ℤ-zero (pos s.denominator) in
    let inner : s.potential p.1.from.0 -ℤ value_at s.potential p.1.to +ℤ pos s.denominator *ℤ volts p.0 ≡ s.potential p.1.from.0 = omega (arith, linear) in
    sym (ap (λ (r : ℕ). pos r *ℤ s.current p.0) resistance) ∙ h ∙ ap (λ z. pos (p.1.times * 1000000) *ℤ z) inner

-- at any other element the resistance is its own
pub own_ohm : (ohm : Element → ℕ) (volts : ℕ → ℤ) (s : Solution) (p : Placed) → is_ground p.1 ≡ false → IsOhm volts s (placed_with ohm p) → IsOhm volts s p
own_ohm ohm volts s p other h =
    let resistance : cond (is_ground p.1) (ohm p.1) p.1.micro_ohm ≡ p.1.micro_ohm = ap (λ b. cond b (ohm p.1) p.1.micro_ohm) other in
    sym (ap (λ (r : ℕ). pos r *ℤ s.current p.0) resistance) ∙ h

-- a solution with resistances of the ranges is a varied solution
pub varied_with : (standing : List Placed) (ranges : Ranges) (ohm : Element → ℕ) (volts : ℕ → ℤ) (s : Solution) →
    AreInRanges ranges ohm standing → HaveNoGroundVolts standing volts → SolvesWith standing ohm volts s → IsVaried standing ranges volts s
varied_with standing ranges ohm volts s inside quiet solves =
    let InRange : Placed → Type 0 = λ p. is_ground p.1 ≡ true → IsInRange (ranges p.1) (ohm p.1) in
    let Quiet : Placed → Type 0 = λ p. is_ground p.1 ≡ true → volts p.0 ≡ pos 0 in
    let Ohm : Placed → Type 0 = λ p. IsOhm volts s (placed_with ohm p) in
    record {
      denominator_above_0 = solves.denominator_above_0;
      ohm = All-from_recursion (λ p. is_ground p.1 ≡ false → IsOhm volts s p) standing
          (weaker Ohm (λ p. is_ground p.1 ≡ false → IsOhm volts s p) (λ p h other. own_ohm ohm volts s p other h) standing solves.by_ohm);
      grounds = All-from_recursion (λ p. is_ground p.1 ≡ true → IsGroundWithin ranges s p) standing
          (weaker (λ p. (InRange p × Quiet p) × Ohm p) (λ p. is_ground p.1 ≡ true → IsGroundWithin ranges s p)
          (λ p h ground. within_range (ranges p.1) (ohm p.1) (s.current p.0) (pos (p.1.times * 1000000) *ℤ s.potential p.1.from.0) (h.0.0 ground) (ground_drive ohm volts s p ground (h.0.1 ground) h.1)) standing
          (both (λ p. InRange p × Quiet p) Ohm standing
          (both InRange Quiet standing (recursion_from_All InRange standing inside) (recursion_from_All Quiet standing quiet)) solves.by_ohm));
      none_if_open = solves.none_if_open;
      kirchhoff = solves.kirchhoff;
    }

-- one of two that are the same
either_same : (b : Bool) (x : ℕ) → cond b x x ≡ x
either_same true x = refl
either_same false x = refl

-- a solution of the network itself is one with its own resistances
pub own_solves : (standing : List Placed) (volts : ℕ → ℤ) (s : Solution) → IsSolution standing volts s → SolvesWith standing (λ e. e.micro_ohm) volts s
own_solves standing volts s h = record {
  denominator_above_0 = h.denominator_above_0;
  by_ohm = weaker (IsOhm volts s) (λ p. IsOhm volts s (placed_with (λ e. e.micro_ohm) p))
      (λ p ohm. ap (λ (r : ℕ). pos r *ℤ s.current p.0) (either_same (is_ground p.1) p.1.micro_ohm) ∙ ohm) standing (recursion_from_All (IsOhm volts s) standing h.ohm);
  none_if_open = h.none_if_open;
  kirchhoff = h.kirchhoff;
}
