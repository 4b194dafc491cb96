-- The ends of a standing element are live, so its current lies between the ones that the intervals at its ends give.
use Rattle.std.proofs.Common.{◌≡◌, ℕ, ◌^◌, ◌<◌, true, List, ℤ, pos, ◌-ℤ◌, ◌*ℤ◌, ◌≤ℤ◌, arith, refl}
use Rattle.std.proofs.lemmas.Int.{ints}
use Rattle.std.specs.List.{Contains, list_any}
use Rattle.std.proofs.lemmas.List.Elements.{All-contains, All-from_recursion}
use Rattle.gic_fixed.specs.Encloses.{Encloses}
use Rattle.gic_fixed.specs.Rounding.{floor_div, ceil_div}
use Rattle.gic_model.specs.declared.parts.End.{End}
use Rattle.gic_model.specs.declared.parts.End.TheVariants.{Node, Earth}
use Rattle.gic_model.specs.Network.{ends_at}
use Rattle.gic_model.specs.Standing.{is_live, value_at}
use Rattle.gic_model.specs.Solution.{Solution, IsSolution, IsOhm}
use Rattle.gic_model.specs.Sharp.{IsSharp, least_current, most_current}
use Rattle.gic_model.specs.Sums.{Placed}
use Rattle.gic_model.proofs.Members.{any_of_each}
use Rattle.gic_model.proofs.Ends.{IsLiveEnd, from_own, end_own}
use Rattle.gic_enclose.specs.Ends.{low_at, high_at}
use Rattle.gic_fixed.specs.Ends.{Ends, IsAtMostWide}
use Rattle.gic_enclose.specs.Certain.{AreCertain}
use Rattle.gic_effective.specs.Holds.{HoldsAt, HoldsSolution, HoldsSolutions}
use Rattle.gic_effective.specs.Ohm.{drive_of, least_nano, most_nano}
use Rattle.gic_effective.proofs.Currents.{drive_holds, current_holds}
use Rattle.gic_effective.proofs.Widths.{milli_low, milli_high, same_width}

module _ (standing : List Placed) (potentials : List Ends) (s : Solution) (p : Placed) (has : Contains standing p) (holds : HoldsSolution standing potentials s) where
  leads : (m : ℕ) → ends_at p.1 m ≡ true → is_live standing m ≡ true
  leads m ends =
      All-contains (λ x. ends_at x.1 m ≡ true → list_any (λ y. ends_at y.1 m) standing ≡ true) standing p
      (All-from_recursion _ standing (any_of_each (λ y. ends_at y.1 m) standing)) has ends

  from_holds : HoldsAt potentials s p.1.from.0
  from_holds = holds p.1.from.0 (from_own p.1 (is_live standing) leads)

  to_by : (t : End) → IsLiveEnd (is_live standing) t → Encloses (value_at (low_at potentials) t) (value_at (high_at potentials) t) (pos (2 ^ 36) *ℤ value_at s.potential t) s.denominator
  to_by (Node m) live = holds m.0 live
  to_by Earth live = record { above_lo = omega (arith, ints); below_hi = omega (arith, ints) }

  pub element_holds : (volts : ℕ → ℤ) → 0 < p.1.micro_ohm → IsSolution standing volts s → Encloses (least_nano volts (low_at potentials) (high_at potentials) p) (most_nano volts (low_at potentials) (high_at potentials) p) (s.current p.0) s.denominator
  element_holds volts some solves =
      let driven = drive_holds (2 ^ 36) (low_at potentials p.1.from.0) (high_at potentials p.1.from.0) (value_at (low_at potentials) p.1.to) (value_at (high_at potentials) p.1.to)
      (s.potential p.1.from.0) (value_at s.potential p.1.to) (volts p.0) s.denominator from_holds (to_by p.1.to (end_own p.1 p.1.to refl (is_live standing) leads)) in
      current_holds (2 ^ 36) p.1.times p.1.micro_ohm _ _ _ (s.current p.0) s.denominator some (omega arith) driven (All-contains (IsOhm volts s) standing p solves.ohm has)

-- and it is no wider in milliamperes than the potentials are sharp for
pub element_narrow : (standing : List Placed) (volts low high : ℕ → ℤ) (width : ℕ) (p : Placed) → Contains standing p → 0 < p.1.micro_ohm → IsSharp standing volts low high width →
    IsAtMostWide width (floor_div (least_nano volts low high p) (pos 1000000)) (ceil_div (most_nano volts low high p) (pos 1000000))
element_narrow standing volts low high width p has some sharp =
    let wide = All-contains (λ p. (most_current volts low high p -ℤ least_current volts low high p) ≤ℤ pos width) standing p sharp.elements has in
    same_width _ _ (least_current volts low high p) (most_current volts low high p) width
    (milli_low p.1.times p.1.micro_ohm (drive_of (low p.1.from.0) (value_at high p.1.to) (volts p.0)) some)
    (milli_high p.1.times p.1.micro_ohm (drive_of (high p.1.from.0) (value_at low p.1.to) (volts p.0)) some) wide

-- certain potentials hold every solution
pub certain_holds : (standing : List Placed) (volts : ℕ → ℤ) (potentials : List Ends) → AreCertain standing volts potentials → HoldsSolutions standing volts potentials
certain_holds standing volts potentials certain s solves k live = (certain k).live live s solves
