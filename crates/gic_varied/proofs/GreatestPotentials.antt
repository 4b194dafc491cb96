-- A network whose grounds raise their nodes the most needs no lift, so its potentials are the greatest; and where signs are open at the grounds, a flat lift is enough.
use Rattle.std.proofs.Common.{◌≡◌, ℕ, ◌-◌, ◌*◌, ◌≤◌, Bool, true, false, cond, List, inl, inr, ℤ, pos, ◌+ℤ◌, ◌-ℤ◌, ◌*ℤ◌, neg_ℤ, ◌≤ℤ◌, arith, ap, sym, subst, ◌∙◌}
use lib.IntN.{*ℤ_comm, *ℤ-zero}
use Rattle.std.proofs.Math.IntN.{*ℤ-one}
use Rattle.std.proofs.lemmas.List.Elements.{recursion_from_All, All-from_recursion}
use Rattle.gic_base.proofs.Each.{weaker}
use Rattle.gic_exists.specs.Exists.{HasSolution}
use Rattle.gic_exists.proofs.InNetworks.{exists_in}
use Rattle.gic_fixed.specs.Encloses.{Encloses}
use Rattle.gic_fixed.specs.Ends.{Ends}
use Rattle.gic_fixed.proofs.Integers.{linear, *ℤ-≤ℤ, *ℤ-neg_ℤ}
use Rattle.gic_fixed.proofs.Enclosures.{≤ℤ-times}
use Rattle.gic_model.specs.declared.parts.Element.{Element}
use Rattle.gic_model.specs.declared.parts.Item.{Item}
use Rattle.gic_model.specs.Earthing.{AreEarthed}
use Rattle.gic_model.specs.Limits.{IsWithinLimits}
use Rattle.gic_model.specs.Network.{Network, ends_at}
use Rattle.gic_model.specs.Solution.{Solution}
use Rattle.gic_model.specs.Standing.{standing_elements, is_live, IsLive}
use Rattle.gic_model.specs.Sums.{Placed}
use Rattle.gic_model.proofs.Ends.{standing_within, ends_live, from_own}
use Rattle.gic_model.proofs.Members.{both}
use Rattle.gic_varied.specs.Bounds.{AreModest}
use Rattle.gic_varied.specs.Certified.{HoldPotentials}
use Rattle.gic_varied.specs.Corners.{Corner, corner_ohm, with_corner, raising_height, lowering_height}
use Rattle.gic_varied.specs.Grounds.{is_ground, HaveNoGroundVolts}
use Rattle.gic_varied.specs.Lifts.{IsLift, AreLifts}
use Rattle.gic_varied.specs.PotentialRanges.{IsRaising, AreRaising, AreLowering, IsAtMostAt, AreHeightsAtMost}
use Rattle.gic_varied.specs.Ranges.{Range, Ranges, IsInRange, AreInRanges}
use Rattle.gic_varied.specs.Varied.{IsVaried}
use Rattle.gic_varied.proofs.Certain.{live_in, raising_bound, lowering_bound}
use Rattle.gic_varied.proofs.FlatLifts.{IsFound, found_standing, even, even_at, flat, solves_flat, flat_lifts}
use Rattle.gic_varied.proofs.Intervals.{makes_up_most, nothing_most, nothing_least, upper_end, lower_end}
use Rattle.gic_varied.proofs.Lifted.{raised, lowered}
use Rattle.gic_varied.proofs.OtherGrounds.{earthed_with}
use Rattle.gic_varied.proofs.Regrounded.{SolvesWith, solves_with}
use Rattle.gic_varied.proofs.Turned.{turned, turned_volts, solves_turned, varied_turned, quiet_turned}

-- over plain numbers: a lift of 0 makes up for what isn't above 0
nothing_up : (l m k : ℕ) (z : ℤ) → l ≤ m → z ≤ℤ pos 0 → ((pos m -ℤ pos l) *ℤ z) ≤ℤ (pos k *ℤ neg_ℤ (pos 0))
nothing_up l m k z order below =
    let difference : pos m -ℤ pos l ≡ pos (m - l) = omega (arith, linear) in
    let left = ap (λ y. y *ℤ z) difference in
    let step = *ℤ-≤ℤ (m - l) z (pos 0) below in
    let none = *ℤ-zero (pos (m - l)) in
    let minus : neg_ℤ (pos 0) ≡ pos 0 = omega (arith, linear) in
    let right = ap (λ y. pos k *ℤ y) minus ∙ *ℤ-zero (pos k) in
    omega (arith, linear)

-- a ground that raises its node the most needs no lift
no_lift : (range : Range) (ohm : ℕ) (z : ℤ) (d : ℕ) → range.least ≤ range.most → IsRaising range ohm z → IsLift range ohm z d (pos 0)
no_lift range ohm z d order (inl h) =
    subst (λ (r : ℕ). IsLift range r z d (pos 0)) (sym h.0)
    (record {
      not_above_0 = omega (arith, linear);
      to_most = nothing_most range.most d z (neg_ℤ (pos 0)) (omega (arith, linear));
      to_least = makes_up_most range.least range.most d z (neg_ℤ (pos 0)) (nothing_up range.least range.most (d * range.least) (neg_ℤ z) order (let above = h.1 in omega (arith, linear)));
    })
no_lift range ohm z d order (inr h) =
    subst (λ (r : ℕ). IsLift range r z d (pos 0)) (sym h.0)
    (record {
      not_above_0 = omega (arith, linear);
      to_most = nothing_up range.least range.most (d * range.least) z order h.1;
      to_least = nothing_least range.least range.most d z (neg_ℤ (pos 0)) (omega (arith, linear));
    })

-- voltages of 0 lift over a network whose grounds raise
no_lifts : (network : Network) (stands : Item → Bool) (ranges : Ranges) (ohm : Element → ℕ) (potential : ℕ → ℤ) (d : ℕ) →
    AreInRanges ranges ohm (standing_elements network stands) → AreRaising (standing_elements network stands) ranges ohm potential →
    AreLifts (standing_elements network stands) ranges ohm potential d (even network 0)
no_lifts network stands ranges ohm potential d inside raising = record {
  elsewhere = All-from_recursion (λ p. is_ground p.1 ≡ false → even network 0 p.0 ≡ pos 0) standing
      (weaker (IsFound 0 network.list) (λ p. is_ground p.1 ≡ false → even network 0 p.0 ≡ pos 0) (λ p h other. nothing p h) standing (found_standing network stands));
  at_grounds = All-from_recursion (λ p. is_ground p.1 ≡ true → IsLift (ranges p.1) (ohm p.1) (potential p.1.from.0) d (even network 0 p.0)) standing
      (weaker (λ p. IsFound 0 network.list p × (In p × Raises p)) (λ p. is_ground p.1 ≡ true → IsLift (ranges p.1) (ohm p.1) (potential p.1.from.0) d (even network 0 p.0))
      (λ p h ground. subst (λ (u : ℤ). IsLift (ranges p.1) (ohm p.1) (potential p.1.from.0) d u) (sym (nothing p h.0))
      (no_lift (ranges p.1) (ohm p.1) (potential p.1.from.0) d (order (ranges p.1) (ohm p.1) (h.1.0 ground)) (h.1.1 ground))) standing
      (both (IsFound 0 network.list) (λ p. In p × Raises p) standing (found_standing network stands)
      (both In Raises standing (recursion_from_All In standing inside) (recursion_from_All Raises standing raising))));
}
  where
    standing : List Placed
    standing = standing_elements network stands

    In : Placed → Type 0
    In p = is_ground p.1 ≡ true → IsInRange (ranges p.1) (ohm p.1)

    Raises : Placed → Type 0
    Raises p = is_ground p.1 ≡ true → IsRaising (ranges p.1) (ohm p.1) (potential p.1.from.0)

    either : (b : Bool) → cond b (neg_ℤ (pos 0)) (pos 0) ≡ pos 0
    either true = omega (arith, linear)
    either false = omega (arith, linear)

    nothing : (p : Placed) → IsFound 0 network.list p → even network 0 p.0 ≡ pos 0
    nothing p h = even_at network 0 p h ∙ either (is_ground p.1)

    order : (range : Range) (r : ℕ) → IsInRange range r → range.least ≤ range.most
    order range r h = let from = h.at_least in let to = h.at_most in omega arith

-- over plain numbers: a lift of 0
no_higher : (dr dv : ℕ) (q p : ℤ) → (pos (dr * 1) *ℤ q) ≤ℤ (pos dv *ℤ (pos 1 *ℤ p +ℤ pos dr *ℤ pos 0)) → (pos dr *ℤ q) ≤ℤ (pos dv *ℤ p)
unfolding lib.IntN.one
no_higher dr dv q p h =
    let once : pos 1 *ℤ p ≡ p = *ℤ_comm (pos 1) p ∙ *ℤ-one p in
    let none = *ℤ-zero (pos dr) in
    let inner : pos 1 *ℤ p +ℤ pos dr *ℤ pos 0 ≡ p = omega (arith, linear) in
    let same : pos (dr * 1) *ℤ q ≡ pos dr *ℤ q = ap (λ (n : ℕ). pos n *ℤ q) (omega arith) in
    let right = ap (λ z. pos dv *ℤ z) inner in
    omega (arith, linear)

turned_order_back : (dr dv : ℕ) (q p : ℤ) → (pos dr *ℤ neg_ℤ q) ≤ℤ (pos dv *ℤ neg_ℤ p) → (pos dv *ℤ p) ≤ℤ (pos dr *ℤ q)
turned_order_back dr dv q p h =
    let left = *ℤ-neg_ℤ (pos dr) q in
    let right = *ℤ-neg_ℤ (pos dv) p in
    omega (arith, linear)

pub at_most : (network : Network) (stands : Item → Bool) (ranges : Ranges) (ohm : Element → ℕ) (volts : ℕ → ℤ) (greatest varied : Solution) (k : ℕ) →
    IsWithinLimits network → AreEarthed (standing_elements network stands) → HaveNoGroundVolts (standing_elements network stands) volts →
    AreInRanges ranges ohm (standing_elements network stands) → SolvesWith (standing_elements network stands) ohm volts greatest →
    AreRaising (standing_elements network stands) ranges ohm greatest.potential → IsVaried (standing_elements network stands) ranges volts varied →
    IsLive (standing_elements network stands) k → IsAtMostAt varied greatest k
at_most network stands ranges ohm volts greatest varied k limits earthed quiet inside refers raising varies live =
    no_higher greatest.denominator varied.denominator (varied.potential k) (greatest.potential k)
    (raised network.nodes (standing_elements network stands) (standing_within network stands limits) earthed ranges ohm volts (even network 0) greatest varied (flat 0) inside quiet refers varies
    (no_lifts network stands ranges ohm greatest.potential greatest.denominator inside raising) (solves_flat network stands (λ e. (ranges e).most) 0) k live)

pub at_least : (network : Network) (stands : Item → Bool) (ranges : Ranges) (ohm : Element → ℕ) (volts : ℕ → ℤ) (least varied : Solution) (k : ℕ) →
    IsWithinLimits network → AreEarthed (standing_elements network stands) → HaveNoGroundVolts (standing_elements network stands) volts →
    AreInRanges ranges ohm (standing_elements network stands) → SolvesWith (standing_elements network stands) ohm volts least →
    AreLowering (standing_elements network stands) ranges ohm least.potential → IsVaried (standing_elements network stands) ranges volts varied →
    IsLive (standing_elements network stands) k → IsAtMostAt least varied k
at_least network stands ranges ohm volts least varied k limits earthed quiet inside refers lowering varies live =
    let standing = standing_elements network stands in
    turned_order_back least.denominator varied.denominator (varied.potential k) (least.potential k)
    (at_most network stands ranges ohm (turned_volts volts) (turned least) (turned varied) k limits earthed (quiet_turned standing volts quiet) inside
    (solves_turned standing ohm volts least refers) lowering (varied_turned standing ranges volts varied varies) live)

-- over plain numbers: a bound in units of an interval, over the denominator
over_unit : (h u d : ℕ) (height z : ℤ) → z ≤ℤ (height *ℤ pos (u * d)) → height ≤ℤ pos h → z ≤ℤ pos (h * u * d)
over_unit h u d height z below few =
    let step = ≤ℤ-times height (pos h) (u * d) few in
    let same : h * (u * d) ≡ h * u * d = omega arith in
    omega (arith, linear)

module _ (network : Network) (stands : Item → Bool) (ranges : Ranges) (corner : Corner) (volts : ℕ → ℤ) (unit : ℕ) (ends : ℕ → Ends) (open_height : ℕ) (varied : Solution)
    (limits : IsWithinLimits network) (corner_limits : IsWithinLimits (with_corner ranges corner network)) (earthed : AreEarthed (standing_elements network stands))
    (quiet : HaveNoGroundVolts (standing_elements network stands) volts) (inside : AreInRanges ranges (corner_ohm ranges corner) (standing_elements network stands))
    (modest : AreModest ranges (standing_elements network stands))
    (holds : HoldPotentials (standing_elements (with_corner ranges corner network) stands) volts unit ends)
    (varies : IsVaried (standing_elements network stands) ranges volts varied) where
  abbrev standing : List Placed
  standing = standing_elements network stands

  abbrev ohm : Element → ℕ
  ohm = corner_ohm ranges corner

  solved : HasSolution (standing_elements (with_corner ranges corner network) stands) volts
  solved = exists_in (with_corner ranges corner network) stands volts corner_limits (earthed_with network stands ohm earthed)

  refers : SolvesWith standing ohm volts solved.solution
  refers = solves_with network stands ohm volts solved.solution solved.solves

  held : (k : ℕ) → IsLive standing k → Encloses (ends k).low (ends k).high (solved.solution.potential k) (unit * solved.solution.denominator)
  held k live = holds solved.solution solved.solves k (live_in network stands ohm k live)

  -- the flat lift over what is open
  over_open : (potential height : ℕ → ℤ) → AreHeightsAtMost standing height open_height →
      ((k : ℕ) → IsLive standing k → cond (corner k) (neg_ℤ (potential k)) (potential k) ≤ℤ (height k *ℤ pos (unit * solved.solution.denominator))) →
      AreLifts standing ranges ohm potential solved.solution.denominator (even network (20 * (open_height * unit)))
  over_open potential height few below =
      flat_lifts network stands ranges corner (open_height * unit) solved.solution.denominator potential inside modest
      (weaker (λ p. ((m : ℕ) → ends_at p.1 m ≡ true → is_live standing m ≡ true) × (is_ground p.1 ≡ true → height p.1.from.0 ≤ℤ pos open_height))
      (λ p. is_ground p.1 ≡ true → cond (corner p.1.from.0) (neg_ℤ (potential p.1.from.0)) (potential p.1.from.0) ≤ℤ pos (open_height * unit * solved.solution.denominator))
      (λ p h ground. over_unit open_height unit solved.solution.denominator (height p.1.from.0) (cond (corner p.1.from.0) (neg_ℤ (potential p.1.from.0)) (potential p.1.from.0))
      (below p.1.from.0 (from_own p.1 (is_live standing) h.0)) (h.1 ground)) standing
      (both (λ p. (m : ℕ) → ends_at p.1 m ≡ true → is_live standing m ≡ true) (λ p. is_ground p.1 ≡ true → height p.1.from.0 ≤ℤ pos open_height) standing
      (ends_live standing) (recursion_from_All (λ p. is_ground p.1 ≡ true → height p.1.from.0 ≤ℤ pos open_height) standing few)))

  lift_in_units : pos (20 * (open_height * unit)) ≤ℤ (pos (20 * open_height) *ℤ pos (unit * 1))
  lift_in_units = let same : 20 * (open_height * unit) ≡ 20 * open_height * (unit * 1) = omega arith in omega (arith, linear)

  pub certified_above : AreHeightsAtMost standing (raising_height corner ends) open_height → (k : ℕ) → IsLive standing k →
      varied.potential k ≤ℤ (((ends k).high +ℤ pos (20 * open_height)) *ℤ pos (unit * varied.denominator))
  certified_above few k live =
      upper_end solved.solution.denominator 1 varied.denominator unit (ends k).high (pos (20 * open_height)) (solved.solution.potential k) (pos (20 * (open_height * unit))) (varied.potential k)
      refers.denominator_above_0 (omega arith)
      (raised network.nodes standing (standing_within network stands limits) earthed ranges ohm volts (even network (20 * (open_height * unit))) solved.solution varied (flat (20 * (open_height * unit)))
      inside quiet refers varies
      (over_open solved.solution.potential (raising_height corner ends) few
      (λ m alive. raising_bound (corner m) (ends m).low (ends m).high (solved.solution.potential m) (unit * solved.solution.denominator) (held m alive)))
      (solves_flat network stands (λ e. (ranges e).most) (20 * (open_height * unit))) k live)
      (held k live).below_hi lift_in_units

  pub certified_below : AreHeightsAtMost standing (lowering_height corner ends) open_height → (k : ℕ) → IsLive standing k →
      (((ends k).low -ℤ pos (20 * open_height)) *ℤ pos (unit * varied.denominator)) ≤ℤ varied.potential k
  certified_below few k live =
      lower_end solved.solution.denominator 1 varied.denominator unit (ends k).low (pos (20 * open_height)) (solved.solution.potential k) (pos (20 * (open_height * unit))) (varied.potential k)
      refers.denominator_above_0 (omega arith)
      (lowered network.nodes standing (standing_within network stands limits) earthed ranges ohm volts (even network (20 * (open_height * unit))) solved.solution varied (flat (20 * (open_height * unit)))
      inside quiet refers varies
      (over_open (λ m. neg_ℤ (solved.solution.potential m)) (lowering_height corner ends) few
      (λ m alive. lowering_bound (corner m) (ends m).low (ends m).high (solved.solution.potential m) (unit * solved.solution.denominator) (held m alive)))
      (solves_flat network stands (λ e. (ranges e).most) (20 * (open_height * unit))) k live)
      (held k live).above_lo lift_in_units
