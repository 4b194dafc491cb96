-- The intervals of a right and narrow view have absolute values of 128 bits.
use Rattle.std.proofs.Common.{ℕ, ◌*◌, ◌^◌, ◌<◌, ◌≤◌, Bool, List, Option, Some, None, ℤ, pos, ◌-ℤ◌, ◌≤ℤ◌, unsigned_abs, arith, subst}
use Rattle.std.specs.Prelude.{All, IfSome}
use Rattle.std.proofs.lemmas.List.Elements.{All-from_get_or}
use Rattle.gic_base.specs.declared.limits.TheConstants.{MOST_WALK}
use Rattle.gic_case.specs.Lists.{Lists}
use Rattle.gic_exists.specs.Exists.{EarthedNetworksAreSolved}
use Rattle.gic_fixed.specs.Encloses.{Encloses, IsWithin}
use Rattle.gic_fixed.specs.Ends.{Ends}
use Rattle.gic_fixed.proofs.Divisions.{positive_product}
use Rattle.gic_model.specs.declared.parts.Item.{Item}
use Rattle.gic_model.specs.Limits.{IsWithinLimits, AreVolts, most_volts}
use Rattle.gic_model.specs.Network.{Network}
use Rattle.gic_model.specs.Solution.{Solution, IsSolution}
use Rattle.gic_model.specs.SolutionLaws.{PotentialsAreBounded}
use Rattle.gic_model.specs.Standing.{IsLive, standing_elements}
use Rattle.gic_model.specs.Sums.{Placed}
use Rattle.gic_model.proofs.Ends.{standing_within}
use Rattle.gic_view.specs.Peaks.{HasAbsolutes}
use Rattle.gic_view.specs.Absolute.{HasAbsolute}
use Rattle.gic_stand.specs.Standing.{IsSolvable}
use Rattle.gic_view.specs.Bounds.{FitsView}
use Rattle.gic_view.specs.View.{View, node_at, element_at}
use Rattle.gic_effective.specs.Narrow.{IsNoWider, IsNarrowView}
use Rattle.gic_effective.specs.RightView.{IsRightNode, IsRightElement, IsRightView}
use Rattle.gic_uniform.proofs.FewCurrents.{current_few, most_element_current}
use Rattle.gic_uniform.proofs.SmallEnds.{ends_small}
use Rattle.gic_course.proofs.Told.{has_absolute}

wider : (e : Ends) → IsWithin (2 ^ 52) e.low e.high → FitsView e
wider e small = record { low = omega (arith, small.low); high = omega (arith, small.high) }

-- a narrow interval that encloses a millionth of a limited number
encloses_few : (e : Ends) (q : ℤ) (d width : ℕ) → 0 < d → Encloses e.low e.high q (1000000 * d) → unsigned_abs q ≤ most_element_current * d → (e.high -ℤ e.low) ≤ℤ pos width → width ≤ 10000 → HasAbsolute e
encloses_few e q d width some holds few narrow most =
    has_absolute e (wider e (ends_small e.low e.high q (1000000 * d) width (positive_product 1000000 d (omega arith) some) holds (omega (arith, few)) narrow most))

-- what a view shows at a node
node_absolute : (standing : List Placed) (volts : ℕ → ℤ) (width k : ℕ) (cell : Option Ends) (s : Solution) → IsSolution standing volts s
    → (IsLive standing k → unsigned_abs (s.potential k) ≤ MOST_WALK * most_volts * s.denominator) → width ≤ 10000
    → IsRightNode standing volts k cell → IsNoWider width cell → IfSome cell HasAbsolute
node_absolute standing volts width k None s solves few most right narrow = tt
node_absolute standing volts width k (Some e) s solves few most right narrow =
    encloses_few e (s.potential k) s.denominator width solves.denominator_above_0 (right.1 s solves) (omega (arith, few right.0)) narrow most

-- and at an element
element_absolute : (standing : List Placed) (volts : ℕ → ℤ) (width place : ℕ) (cell : Option Ends) (s : Solution) → IsSolution standing volts s
    → unsigned_abs (s.current place) ≤ most_element_current * s.denominator → width ≤ 10000
    → IsRightElement standing volts place cell → IsNoWider width cell → IfSome cell HasAbsolute
element_absolute standing volts width place None s solves few most right narrow = tt
element_absolute standing volts width place (Some e) s solves few most right narrow =
    encloses_few e (s.current place) s.denominator width solves.denominator_above_0 (right.1 s solves) few narrow most

-- in a right and narrow view of a network that can be solved
pub view_absolutes : EarthedNetworksAreSolved → PotentialsAreBounded → (case : Lists) (network : Network) (stands : Item → Bool) (volts : ℕ → ℤ) (width : ℕ) (view : View)
    → IsWithinLimits network → IsSolvable (standing_elements network stands) → AreVolts volts → width ≤ 10000
    → IsRightView case (standing_elements network stands) volts view → IsNarrowView case width view → All HasAbsolute view.effective → HasAbsolutes view
view_absolutes exist bounded case network stands volts width view limits solvable driven most right narrow effective =
    let standing = standing_elements network stands in
    let has = exist network stands volts limits solvable.earthed in
    let s = has.solution in
    let few : (k : ℕ) → IsLive standing k → unsigned_abs (s.potential k) ≤ MOST_WALK * most_volts * s.denominator =
    λ k live. bounded network stands volts s k limits solvable.within driven has.solves live in
    let current = current_few network.nodes standing (standing_within network stands limits) volts driven s has.solves (λ k live. omega (arith, few k live)) in
    record {
      nodes = All-from_get_or (λ cell. IfSome cell HasAbsolute) view.nodes None (λ k within.
          let inside = subst (λ n. k < n) right.lengths.nodes within in
          node_absolute standing volts width k (node_at view k) s has.solves (few k) most (right.nodes k inside) (narrow.nodes k inside));
      elements = All-from_get_or (λ cell. IfSome cell HasAbsolute) view.elements None (λ place within.
          let inside = subst (λ n. place < n) right.lengths.elements within in
          element_absolute standing volts width place (element_at view place) s has.solves (current place) most (right.elements place inside) (narrow.elements place inside));
      transformers = effective;
    }
