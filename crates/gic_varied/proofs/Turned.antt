-- Solutions with all signs turned.
use Rattle.std.proofs.Common.{◌≡◌, ℕ, ◌*◌, Bool, true, false, cond, ◌==◌, inl, inr, List, [], ◌∷◌, ℤ, pos, ◌+ℤ◌, ◌-ℤ◌, ◌*ℤ◌, neg_ℤ, arith, refl, ap, sym, ◌∙◌}
use Rattle.std.specs.List.{AllByRecursion}
use Rattle.std.proofs.lemmas.List.Elements.{recursion_from_All, All-from_recursion}
use Rattle.gic_base.proofs.Each.{weaker}
use Rattle.gic_model.specs.declared.parts.End.{End}
use Rattle.gic_model.specs.declared.parts.End.TheVariants.{Node, Earth}
use Rattle.gic_model.specs.declared.parts.Element.{Element}
use Rattle.gic_model.specs.Standing.{IsLive, elements_at, value_at, leaving}
use Rattle.gic_model.specs.Sums.{Placed, sum_of}
use Rattle.gic_model.specs.Solution.{Solution, IsOhm}
use Rattle.gic_fixed.proofs.Integers.{linear, *ℤ-neg_ℤ}
use Rattle.gic_fixed.proofs.Sums.{sum_of-same, sum_of-neg_ℤ}
use Rattle.gic_varied.specs.Grounds.{is_ground, HaveNoGroundVolts}
use Rattle.gic_varied.specs.Ranges.{Range, Ranges}
use Rattle.gic_varied.specs.Varied.{IsOhmWithin, IsGroundWithin, IsVaried}
use Rattle.gic_varied.proofs.Regrounded.{placed_with, SolvesWith}

abbrev pub turned : Solution → Solution
turned s = record { potential = λ m. neg_ℤ (s.potential m); current = λ place. neg_ℤ (s.current place); denominator = s.denominator }

abbrev pub turned_volts : (ℕ → ℤ) → ℕ → ℤ
turned_volts volts place = neg_ℤ (volts place)

nothing_turned : (z : ℤ) → z ≡ pos 0 → neg_ℤ z ≡ pos 0
nothing_turned z h = ap neg_ℤ h

value_turned : (x : ℕ → ℤ) (t : End) → value_at (λ m. neg_ℤ (x m)) t ≡ neg_ℤ (value_at x t)
value_turned x (Node m) = refl
value_turned x Earth = refl

pub ohm_turned : (volts : ℕ → ℤ) (s : Solution) (p : Placed) → IsOhm volts s p → IsOhm (turned_volts volts) (turned s) p
ohm_turned volts s p ohm =
    let w = pos (p.1.times * 1000000) in
    let drive = s.potential p.1.from.0 -ℤ value_at s.potential p.1.to +ℤ pos s.denominator *ℤ volts p.0 in
    let left = *ℤ-neg_ℤ (pos p.1.micro_ohm) (s.current p.0) in
    let there = value_turned s.potential p.1.to in
    let volt = *ℤ-neg_ℤ (pos s.denominator) (volts p.0) in
    let inner : neg_ℤ (s.potential p.1.from.0) -ℤ value_at (λ m. neg_ℤ (s.potential m)) p.1.to +ℤ pos s.denominator *ℤ neg_ℤ (volts p.0) ≡ neg_ℤ drive = omega (arith, linear) in
    left ∙ ap neg_ℤ ohm ∙ sym (ap (λ z. w *ℤ z) inner ∙ *ℤ-neg_ℤ w drive)

leaving_turned : (k : ℕ) (e : Element) (z : ℤ) → leaving k e (neg_ℤ z) ≡ neg_ℤ (leaving k e z)
leaving_turned k e z = by (e.from.0 == k)
  where
    by : (b : Bool) → cond b (neg_ℤ z) (neg_ℤ (neg_ℤ z)) ≡ neg_ℤ (cond b z (neg_ℤ z))
    by true = refl
    by false = refl

pub kirchhoff_turned : (standing : List Placed) (s : Solution) → ((k : ℕ) → IsLive standing k → sum_of (λ p. leaving k p.1 (s.current p.0)) (elements_at standing k) ≡ pos 0) →
    (k : ℕ) → IsLive standing k → sum_of (λ p. leaving k p.1 (neg_ℤ (s.current p.0))) (elements_at standing k) ≡ pos 0
kirchhoff_turned standing s kirchhoff k live =
    sum_of-same (λ p. leaving k p.1 (neg_ℤ (s.current p.0))) (λ p. neg_ℤ (leaving k p.1 (s.current p.0))) (elements_at standing k) (each (elements_at standing k)) ∙
    sum_of-neg_ℤ (λ p. leaving k p.1 (s.current p.0)) (elements_at standing k) ∙
    nothing_turned (sum_of (λ p. leaving k p.1 (s.current p.0)) (elements_at standing k)) (kirchhoff k live)
  where
    each : (ps : List Placed) → AllByRecursion (λ p. leaving k p.1 (neg_ℤ (s.current p.0)) ≡ neg_ℤ (leaving k p.1 (s.current p.0))) ps
    each [] = tt
    each (p ∷ ps) = (leaving_turned k p.1 (s.current p.0), each ps)

pub solves_turned : (standing : List Placed) (ohm : Element → ℕ) (volts : ℕ → ℤ) (s : Solution) → SolvesWith standing ohm volts s → SolvesWith standing ohm (turned_volts volts) (turned s)
solves_turned standing ohm volts s h = record {
  denominator_above_0 = h.denominator_above_0;
  by_ohm = weaker (λ p. IsOhm volts s (placed_with ohm p)) (λ p. IsOhm (turned_volts volts) (turned s) (placed_with ohm p)) (λ p law. ohm_turned volts s (placed_with ohm p) law) standing h.by_ohm;
  none_if_open = λ place not_in. nothing_turned (s.current place) (h.none_if_open place not_in);
  kirchhoff = kirchhoff_turned standing s h.kirchhoff;
}

within_turned : (range : Range) (drive current : ℤ) → IsOhmWithin range drive current → IsOhmWithin range (neg_ℤ drive) (neg_ℤ current)
within_turned range drive current (inl h) =
    let least = *ℤ-neg_ℤ (pos range.least) current in
    let most = *ℤ-neg_ℤ (pos range.most) current in
    inr (omega (arith, linear, h.0), omega (arith, linear, h.2), omega (arith, linear, h.1))
within_turned range drive current (inr h) =
    let least = *ℤ-neg_ℤ (pos range.least) current in
    let most = *ℤ-neg_ℤ (pos range.most) current in
    inl (omega (arith, linear, h.0), omega (arith, linear, h.2), omega (arith, linear, h.1))

ground_turned : (ranges : Ranges) (s : Solution) (p : Placed) → IsGroundWithin ranges s p → IsGroundWithin ranges (turned s) p
ground_turned ranges s p h =
    let e = *ℤ-neg_ℤ (pos (p.1.times * 1000000)) (s.potential p.1.from.0) in
    rw e (within_turned (ranges p.1) (pos (p.1.times * 1000000) *ℤ s.potential p.1.from.0) (s.current p.0) h)

pub varied_turned : (standing : List Placed) (ranges : Ranges) (volts : ℕ → ℤ) (s : Solution) → IsVaried standing ranges volts s → IsVaried standing ranges (turned_volts volts) (turned s)
varied_turned standing ranges volts s h = record {
  denominator_above_0 = h.denominator_above_0;
  ohm = All-from_recursion (λ p. is_ground p.1 ≡ false → IsOhm (turned_volts volts) (turned s) p) standing
      (weaker (λ p. is_ground p.1 ≡ false → IsOhm volts s p) (λ p. is_ground p.1 ≡ false → IsOhm (turned_volts volts) (turned s) p) (λ p law other. ohm_turned volts s p (law other)) standing
      (recursion_from_All (λ p. is_ground p.1 ≡ false → IsOhm volts s p) standing h.ohm));
  grounds = All-from_recursion (λ p. is_ground p.1 ≡ true → IsGroundWithin ranges (turned s) p) standing
      (weaker (λ p. is_ground p.1 ≡ true → IsGroundWithin ranges s p) (λ p. is_ground p.1 ≡ true → IsGroundWithin ranges (turned s) p) (λ p law ground. ground_turned ranges s p (law ground)) standing
      (recursion_from_All (λ p. is_ground p.1 ≡ true → IsGroundWithin ranges s p) standing h.grounds));
  none_if_open = λ place not_in. nothing_turned (s.current place) (h.none_if_open place not_in);
  kirchhoff = kirchhoff_turned standing s h.kirchhoff;
}

pub quiet_turned : (standing : List Placed) (volts : ℕ → ℤ) → HaveNoGroundVolts standing volts → HaveNoGroundVolts standing (turned_volts volts)
quiet_turned standing volts h =
    All-from_recursion (λ p. is_ground p.1 ≡ true → neg_ℤ (volts p.0) ≡ pos 0) standing
    (weaker (λ p. is_ground p.1 ≡ true → volts p.0 ≡ pos 0) (λ p. is_ground p.1 ≡ true → neg_ℤ (volts p.0) ≡ pos 0) (λ p none ground. nothing_turned (volts p.0) (none ground)) standing
    (recursion_from_All (λ p. is_ground p.1 ≡ true → volts p.0 ≡ pos 0) standing h))
