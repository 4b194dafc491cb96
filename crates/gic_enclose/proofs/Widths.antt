-- How wide outward intervals are.
use Rattle.std.proofs.Common.{ℕ, ◌*◌, ◌^◌, ◌<◌, ◌≤◌, List, [], ◌∷◌, ℤ, pos, ◌+ℤ◌, ◌-ℤ◌, ◌*ℤ◌, arith, inl, inr}
use Rattle.std.specs.List.{AllByRecursion}
use Rattle.std.proofs.lemmas.Int.{ints}
use Rattle.std.proofs.lemmas.List.Elements.{All-from_recursion}
use Rattle.gic_fixed.specs.Rounding.{floor_div, ceil_div}
use Rattle.gic_fixed.specs.Ends.{IsAtMostWide}
use Rattle.gic_fixed.proofs.Divisions.{outward_width}
use Rattle.gic_fixed.proofs.Widths.{times_width, wider}
use Rattle.gic_model.specs.declared.parts.End.{End}
use Rattle.gic_model.specs.declared.parts.End.TheVariants.{Node, Earth}
use Rattle.gic_model.specs.Limits.{IsElementWithin}
use Rattle.gic_model.specs.Standing.{value_at}
use Rattle.gic_model.specs.Sharp.{IsSharp, least_current, most_current}
use Rattle.gic_model.specs.Sums.{Placed}

drive_width : (push flo fhi tlo thi : ℤ) (w : ℕ) → IsAtMostWide w flo fhi → IsAtMostWide w tlo thi → IsAtMostWide (2 * w) (flo -ℤ thi +ℤ push) (fhi -ℤ tlo +ℤ push)
drive_width push flo fhi tlo thi w h k = omega (arith, ints)

element_width : (g w times r : ℕ) (push flo fhi tlo thi : ℤ) → 0 < r * g → times * (2 * w) ≤ r * g → IsAtMostWide w flo fhi → IsAtMostWide w tlo thi →
    IsAtMostWide 2 (floor_div (pos times *ℤ (flo -ℤ thi +ℤ push)) (pos (r * g))) (ceil_div (pos times *ℤ (fhi -ℤ tlo +ℤ push)) (pos (r * g)))
element_width g w times r push flo fhi tlo thi h most from to =
    let low = flo -ℤ thi +ℤ push in
    let high = fhi -ℤ tlo +ℤ push in
    let drive : IsAtMostWide (times * (2 * w)) (pos times *ℤ low) (pos times *ℤ high) = times_width low high times (2 * w) (drive_width push flo fhi tlo thi w from to) in
    outward_width (pos times *ℤ low) (pos times *ℤ high) (r * g) 1 h (wider (pos times *ℤ low) (pos times *ℤ high) (times * (2 * w)) (r * g * 1) (omega (arith, most)) drive)

at_end : (low high : ℕ → ℤ) → ((k : ℕ) → IsAtMostWide (2 ^ 43) (low k) (high k)) → (e : End) → IsAtMostWide (2 ^ 43) (value_at low e) (value_at high e)
at_end low high h (Node m) = h m.0
at_end low high h Earth = omega (arith, ints)

module _ (nodes : ℕ) (volts low high : ℕ → ℤ) (width : ℕ) (h : 2 ≤ width) (narrow : (k : ℕ) → IsAtMostWide (2 ^ 43) (low k) (high k)) where
  of_one : (p : Placed) → IsElementWithin nodes p.1 → IsAtMostWide width (least_current volts low high p) (most_current volts low high p)
  of_one p f =
      let three : p.1.times ≤ 3 = elim f.one_or_three [ inl one ↦ omega arith | inr three ↦ omega arith ] in
      wider (least_current volts low high p) (most_current volts low high p) 2 width h
      (element_width (2 ^ 36) (2 ^ 43) p.1.times p.1.micro_ohm (pos (2 ^ 36) *ℤ volts p.0) (low p.1.from.0) (high p.1.from.0) (value_at low p.1.to) (value_at high p.1.to)
      (omega (arith, f.least_ohm)) (omega (arith, f.least_ohm, three)) (narrow p.1.from.0) (at_end low high narrow p.1.to))

  each : (ps : List Placed) → AllByRecursion (λ p. IsElementWithin nodes p.1) ps → AllByRecursion (λ p. IsAtMostWide width (least_current volts low high p) (most_current volts low high p)) ps
  each [] f = tt
  each (p ∷ ps) f = (of_one p f.0, each ps f.1)

  pub narrow_is_sharp : (standing : List Placed) → AllByRecursion (λ p. IsElementWithin nodes p.1) standing → IsSharp standing volts low high width
  narrow_is_sharp standing f = record {
    nodes = λ k live. wider (floor_div (low k) (pos (1000000 * 2 ^ 36))) (ceil_div (high k) (pos (1000000 * 2 ^ 36))) 2 width h
        (outward_width (low k) (high k) (1000000 * 2 ^ 36) 1 (omega arith) (wider (low k) (high k) (2 ^ 43) (1000000 * 2 ^ 36 * 1) (omega arith) (narrow k)));
    elements = All-from_recursion (λ p. IsAtMostWide width (least_current volts low high p) (most_current volts low high p)) standing (each standing f);
  }
