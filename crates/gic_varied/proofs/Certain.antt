-- The enclosure from certain intervals holds every varied solution: each network has a solution, which the intervals hold.
use Rattle.std.proofs.Common.{◌≡◌, ℕ, ◌*◌, ◌^◌, ◌<◌, Bool, true, false, cond, List, ℤ, pos, ◌*ℤ◌, neg_ℤ, ◌≤ℤ◌, arith, ap, sym, subst, ◌∙◌}
use lib.IntN.{*ℤ_comm, *ℤ-zero}
use Rattle.std.specs.List.{AllByRecursion}
use Rattle.std.proofs.lemmas.List.Elements.{recursion_from_All, All-from_recursion}
use Rattle.gic_base.proofs.Each.{weaker}
use Rattle.gic_fixed.specs.Encloses.{Encloses}
use Rattle.gic_fixed.specs.Ends.{Ends}
use Rattle.gic_fixed.proofs.Integers.{linear, *ℤ-neg_ℤ}
use Rattle.gic_fixed.proofs.Enclosures.{Encloses-common, Encloses-div_out, Encloses-cancel}
use Rattle.gic_model.specs.declared.parts.Item.{Item}
use Rattle.gic_model.specs.declared.parts.Element.{Element}
use Rattle.gic_model.specs.Earthing.{AreEarthed}
use Rattle.gic_model.specs.Limits.{IsWithinLimits, IsElementWithin}
use Rattle.gic_model.specs.Network.{Network, ends_at}
use Rattle.gic_model.specs.Solution.{Solution, IsSolution}
use Rattle.gic_model.specs.Standing.{is_live, IsLive, standing_elements}
use Rattle.gic_model.specs.Sums.{Placed}
use Rattle.gic_model.proofs.Members.{both}
use Rattle.gic_model.proofs.Ends.{standing_within, ends_live, from_own}
use Rattle.gic_exists.specs.Exists.{HasSolution}
use Rattle.gic_exists.proofs.InNetworks.{exists_in}
use Rattle.gic_varied.specs.Certified.{Voltages, Units, Intervals, AreLiftVolts, AreCertified, product_at, certified_enclosure, HoldPotentials, in_units}
use Rattle.gic_varied.specs.Corners.{Corner, corner_ohm, with_corner, raising_height, lowering_height}
use Rattle.gic_varied.specs.Enclosure.{lift_volt, varied_ends}
use Rattle.gic_varied.specs.Grounds.{is_ground, with_grounds}
use Rattle.gic_varied.specs.Lifts.{AreLifts, IsLift, with_most}
use Rattle.gic_varied.specs.Ranges.{Ranges, IsInRange, AreInRanges}
use Rattle.gic_varied.specs.Reciprocal.{current_by_weights}
use Rattle.gic_varied.specs.Varied.{IsVaried}
use Rattle.gic_varied.proofs.Enclosed.{enclosed}
use Rattle.gic_varied.proofs.Intervals.{product_holds, varied_holds, lift_lifts, lift_lifts_at_most}
use Rattle.gic_varied.proofs.Lifted.{raised, lowered}
use Rattle.gic_varied.proofs.OtherGrounds.{earthed_with}
use Rattle.gic_varied.proofs.Regrounded.{solves_with, standing_with, live_with}
use Rattle.gic_varied.proofs.Scaled.{scaled, solves_scaled, lift_scaled}

-- a live node of the network is one of the network with other grounds
pub live_in : (network : Network) (stands : Item → Bool) (ohm : Element → ℕ) (k : ℕ) → IsLive (standing_elements network stands) k → IsLive (standing_elements (with_grounds ohm network) stands) k
live_in network stands ohm k live = ap (λ ps. is_live ps k) (standing_with network stands ohm) ∙ live_with ohm (standing_elements network stands) k ∙ live

-- a lift at a ground of the corner: over the potential where it has its least resistance, over the potential with its sign turned where it has its greatest
lift_at : (ranges : Ranges) (corner : Corner) (e : Element) (high potential : ℤ) (d : ℕ) → IsInRange (ranges e) (corner_ohm ranges corner e) →
    cond (corner e.from.0) (neg_ℤ potential) potential ≤ℤ (high *ℤ pos d) → IsLift (ranges e) (corner_ohm ranges corner e) potential d (lift_volt (ranges e) high)
lift_at ranges corner e high potential d = by (corner e.from.0)
  where
    by : (b : Bool) → IsInRange (ranges e) (cond b (ranges e).most (ranges e).least) → cond b (neg_ℤ potential) potential ≤ℤ (high *ℤ pos d) →
        IsLift (ranges e) (cond b (ranges e).most (ranges e).least) potential d (lift_volt (ranges e) high)
    by true inside bound = lift_lifts_at_most (ranges e) high potential d inside bound
    by false inside bound = lift_lifts (ranges e) high potential d inside bound

-- the voltages of a lift, in units of c nanovolts, lift over potentials that the intervals bound
are_lifts : (standing : List Placed) (ranges : Ranges) (corner : Corner) (c d : ℕ) (potential high lifts : ℕ → ℤ) → AreInRanges ranges (corner_ohm ranges corner) standing →
    AreLiftVolts standing ranges high lifts → ((k : ℕ) → IsLive standing k → cond (corner k) (neg_ℤ (potential k)) (potential k) ≤ℤ (high k *ℤ pos (c * d))) →
    AreLifts standing ranges (corner_ohm ranges corner) potential d (λ q. pos c *ℤ lifts q)
are_lifts standing ranges corner c d potential high lifts inside are bound = record {
  elsewhere = All-from_recursion (λ p. is_ground p.1 ≡ false → pos c *ℤ lifts p.0 ≡ pos 0) standing
      (weaker Is (λ p. is_ground p.1 ≡ false → pos c *ℤ lifts p.0 ≡ pos 0)
      (λ p is other. ap (λ z. pos c *ℤ z) (is ∙ ap (λ b. cond b (lift_volt (ranges p.1) (high p.1.from.0)) (pos 0)) other) ∙ *ℤ-zero (pos c)) standing each);
  at_grounds = All-from_recursion (λ p. is_ground p.1 ≡ true → IsLift (ranges p.1) (corner_ohm ranges corner p.1) (potential p.1.from.0) d (pos c *ℤ lifts p.0)) standing
      (weaker (λ p. (Is p × In p) × Live p) (λ p. is_ground p.1 ≡ true → IsLift (ranges p.1) (corner_ohm ranges corner p.1) (potential p.1.from.0) d (pos c *ℤ lifts p.0))
      (λ p h ground. at p (h.0.0 ∙ ap (λ b. cond b (lift_volt (ranges p.1) (high p.1.from.0)) (pos 0)) ground) (h.0.1 ground) (from_own p.1 (is_live standing) h.1)) standing
      (both (λ p. Is p × In p) Live standing (both Is In standing each (recursion_from_All In standing inside)) (ends_live standing)));
}
  where
    Is : Placed → Type 0
    Is p = lifts p.0 ≡ cond (is_ground p.1) (lift_volt (ranges p.1) (high p.1.from.0)) (pos 0)

    In : Placed → Type 0
    In p = is_ground p.1 ≡ true → IsInRange (ranges p.1) (corner_ohm ranges corner p.1)

    Live : Placed → Type 0
    Live p = (m : ℕ) → ends_at p.1 m ≡ true → is_live standing m ≡ true

    each : AllByRecursion Is standing
    each = recursion_from_All Is standing are

    at : (p : Placed) → lifts p.0 ≡ lift_volt (ranges p.1) (high p.1.from.0) → IsInRange (ranges p.1) (corner_ohm ranges corner p.1) → is_live standing p.1.from.0 ≡ true →
        IsLift (ranges p.1) (corner_ohm ranges corner p.1) (potential p.1.from.0) d (pos c *ℤ lifts p.0)
    at p is inside_range live =
        subst (λ (z : ℤ). IsLift (ranges p.1) (corner_ohm ranges corner p.1) (potential p.1.from.0) d (pos c *ℤ z)) (sym is)
        (lift_scaled (ranges p.1) (corner_ohm ranges corner p.1) (potential p.1.from.0) c d (lift_volt (ranges p.1) (high p.1.from.0))
        (lift_at ranges corner p.1 (high p.1.from.0) (potential p.1.from.0) (c * d) inside_range (bound p.1.from.0 live)))

-- over plain numbers
turned_bound : (low p : ℤ) (n : ℕ) → (low *ℤ pos n) ≤ℤ p → neg_ℤ p ≤ℤ (neg_ℤ low *ℤ pos n)
turned_bound low p n h =
    let turned : neg_ℤ low *ℤ pos n ≡ neg_ℤ (low *ℤ pos n) = *ℤ_comm (neg_ℤ low) (pos n) ∙ *ℤ-neg_ℤ (pos n) low ∙ ap neg_ℤ (*ℤ_comm (pos n) low) in
    omega (arith, linear)

minus_minus_bound : (high p : ℤ) (n : ℕ) → p ≤ℤ (high *ℤ pos n) → neg_ℤ (neg_ℤ p) ≤ℤ (high *ℤ pos n)
minus_minus_bound high p n h = omega (arith, linear)

-- the heights of the lifts bound the potentials that an interval holds, as they count at a node of the corner
pub raising_bound : (b : Bool) (low high p : ℤ) (n : ℕ) → Encloses low high p n → cond b (neg_ℤ p) p ≤ℤ (cond b (neg_ℤ low) high *ℤ pos n)
raising_bound true low high p n held = turned_bound low p n held.above_lo
raising_bound false low high p n held = held.below_hi

pub lowering_bound : (b : Bool) (low high p : ℤ) (n : ℕ) → Encloses low high p n → cond b (neg_ℤ (neg_ℤ p)) (neg_ℤ p) ≤ℤ (cond b high (neg_ℤ low) *ℤ pos n)
lowering_bound true low high p n held = minus_minus_bound high p n held.below_hi
lowering_bound false low high p n held = turned_bound low p n held.above_lo

-- an interval in grains, in units
pub grains_hold : (standing : List Placed) (volts : ℕ → ℤ) (unit : ℕ) (grains : ℕ → Ends) → 0 < unit →
    ((s : Solution) → IsSolution standing volts s → (k : ℕ) → IsLive standing k → Encloses (grains k).low (grains k).high (pos (2 ^ 36) *ℤ s.potential k) s.denominator) →
    HoldPotentials standing volts unit (λ k. in_units unit (grains k))
grains_hold standing volts unit grains some holds s solves k live =
    let divided = Encloses-div_out (grains k).low (grains k).high (pos (2 ^ 36) *ℤ s.potential k) s.denominator (2 ^ 36 * unit) (omega arith) (holds s solves k live) in
    let regrouped : 2 ^ 36 * unit * s.denominator ≡ 2 ^ 36 * (unit * s.denominator) = omega arith in
    Encloses-cancel (in_units unit (grains k)).low (in_units unit (grains k)).high (s.potential k) (unit * s.denominator) (2 ^ 36) (omega arith)
    (subst (λ (n : ℕ). Encloses (in_units unit (grains k)).low (in_units unit (grains k)).high (pos (2 ^ 36) *ℤ s.potential k) n) regrouped divided)

-- a lift's nanovolt as a unit of c
as_units : (low high x : ℤ) (c d : ℕ) → Encloses low high x (1 * d) → Encloses low high (pos c *ℤ x) (c * d)
as_units low high x c d h =
    let one : c * (1 * d) ≡ c * d = omega arith in
    subst (λ (n : ℕ). Encloses low high (pos c *ℤ x) n) one (Encloses-common low high x (1 * d) c h)

module _ (network : Network) (stands : Item → Bool) (ranges : Ranges) (corner : Corner) (given : Voltages) (units : Units) (ends : Intervals) (varied : Solution)
    (limits : IsWithinLimits network) (earthed : AreEarthed (standing_elements network stands))
    (inside : AreInRanges ranges (corner_ohm ranges corner) (standing_elements network stands)) (some_stray : 0 < units.stray)
    (certified : AreCertified network stands ranges corner given units ends) (varies : IsVaried (standing_elements network stands) ranges given.field varied) where
  abbrev standing : List Placed
  standing = standing_elements network stands

  abbrev within : AllByRecursion (λ p. IsElementWithin network.nodes p.1) standing
  within = standing_within network stands limits

  abbrev ohm : Element → ℕ
  ohm = corner_ohm ranges corner

  abbrev most : Element → ℕ
  most e = (ranges e).most

  -- over solutions of the four
  over : (reference adjoint lowering raising : Solution) → IsSolution (standing_elements (with_corner ranges corner network) stands) given.field reference →
      IsSolution (standing_elements (with_corner ranges corner network) stands) given.weights adjoint →
      IsSolution (standing_elements (with_most ranges network) stands) given.lowering lowering → IsSolution (standing_elements (with_most ranges network) stands) given.raising raising →
      Encloses (certified_enclosure standing ranges corner units ends).low (certified_enclosure standing ranges corner units ends).high
      (current_by_weights standing given.weights varied) (units.stray * (units.adjoint * units.potential) * varied.denominator)
  over reference adjoint lowering raising refers adjoins lowers raises =
      enclosed network.nodes standing within ranges ohm given.field given.weights reference varied adjoint (units.adjoint * units.potential) units.stray (product_at ends)
      certified.field certified.weights inside some_stray (solves_with network stands ohm given.field reference refers) varies (solves_with network stands ohm given.weights adjoint adjoins)
      (All-from_recursion (λ p. is_ground p.1 ≡ true → Product p) standing
      (weaker (λ p. (m : ℕ) → ends_at p.1 m ≡ true → is_live standing m ≡ true) (λ p. is_ground p.1 ≡ true → Product p) (λ p live ground. product p (from_own p.1 (is_live standing) live)) standing (ends_live standing)))
      ends.own (certified.own reference refers)
    where
      held : (k : ℕ) → IsLive standing k → Encloses (ends.reference k).low (ends.reference k).high (reference.potential k) (units.potential * reference.denominator)
      held k live = certified.reference reference refers k (live_in network stands ohm k live)

      up : (k : ℕ) → IsLive standing k → Encloses (ends.raising k).low (ends.raising k).high (pos units.potential *ℤ raising.potential k) (units.potential * raising.denominator)
      up k live = as_units (ends.raising k).low (ends.raising k).high (raising.potential k) units.potential raising.denominator (certified.raising raising raises k (live_in network stands most k live))

      down : (k : ℕ) → IsLive standing k → Encloses (ends.lowering k).low (ends.lowering k).high (pos units.potential *ℤ lowering.potential k) (units.potential * lowering.denominator)
      down k live = as_units (ends.lowering k).low (ends.lowering k).high (lowering.potential k) units.potential lowering.denominator (certified.lowering lowering lowers k (live_in network stands most k live))

      node : (k : ℕ) → IsLive standing k →
          Encloses (varied_ends (ends.reference k) (ends.lowering k) (ends.raising k)).low (varied_ends (ends.reference k) (ends.lowering k) (ends.raising k)).high
          (varied.potential k) (units.potential * varied.denominator)
      node k live =
          varied_holds reference varied (scaled units.potential lowering) (scaled units.potential raising) k units.potential (ends.reference k) (ends.lowering k) (ends.raising k)
          refers.denominator_above_0 lowers.denominator_above_0 raises.denominator_above_0
          (lowered network.nodes standing within earthed ranges ohm given.field (λ q. pos units.potential *ℤ given.lowering q) reference varied (scaled units.potential lowering) inside certified.field
          (solves_with network stands ohm given.field reference refers) varies
          (are_lifts standing ranges corner units.potential reference.denominator (λ m. neg_ℤ (reference.potential m)) (lowering_height corner ends.reference) given.lowering inside certified.lowering_volts
          (λ m alive. lowering_bound (corner m) (ends.reference m).low (ends.reference m).high (reference.potential m) (units.potential * reference.denominator) (held m alive)))
          (solves_scaled standing most units.potential given.lowering lowering (solves_with network stands most given.lowering lowering lowers)) k live)
          (raised network.nodes standing within earthed ranges ohm given.field (λ q. pos units.potential *ℤ given.raising q) reference varied (scaled units.potential raising) inside certified.field
          (solves_with network stands ohm given.field reference refers) varies
          (are_lifts standing ranges corner units.potential reference.denominator reference.potential (raising_height corner ends.reference) given.raising inside certified.raising_volts
          (λ m alive. raising_bound (corner m) (ends.reference m).low (ends.reference m).high (reference.potential m) (units.potential * reference.denominator) (held m alive)))
          (solves_scaled standing most units.potential given.raising raising (solves_with network stands most given.raising raising raises)) k live)
          (held k live) (down k live) (up k live)

      Product : Placed → Type 0
      Product p =
          Encloses (product_at ends p).low (product_at ends p).high (adjoint.potential p.1.from.0 *ℤ varied.potential p.1.from.0)
          (units.adjoint * units.potential * (adjoint.denominator * varied.denominator))

      product : (p : Placed) → IsLive standing p.1.from.0 → Product p
      product p live =
          let k = p.1.from.0 in
          let regrouped : units.adjoint * adjoint.denominator * (units.potential * varied.denominator) ≡ units.adjoint * units.potential * (adjoint.denominator * varied.denominator) = omega arith in
          subst (λ (n : ℕ). Encloses (product_at ends p).low (product_at ends p).high (adjoint.potential k *ℤ varied.potential k) n) regrouped
          (product_holds (ends.adjoint k) (varied_ends (ends.reference k) (ends.lowering k) (ends.raising k)) (adjoint.potential k) (varied.potential k)
          (units.adjoint * adjoint.denominator) (units.potential * varied.denominator)
          (certified.adjoint adjoint adjoins k (live_in network stands ohm k live)) (node k live))

  pub certain : IsWithinLimits (with_corner ranges corner network) → IsWithinLimits (with_most ranges network) →
      Encloses (certified_enclosure standing ranges corner units ends).low (certified_enclosure standing ranges corner units ends).high
      (current_by_weights standing given.weights varied) (units.stray * (units.adjoint * units.potential) * varied.denominator)
  certain corner_limits most_limits =
      let reference : HasSolution (standing_elements (with_corner ranges corner network) stands) given.field = exists_in (with_corner ranges corner network) stands given.field corner_limits (earthed_with network stands ohm earthed) in
      let adjoint : HasSolution (standing_elements (with_corner ranges corner network) stands) given.weights = exists_in (with_corner ranges corner network) stands given.weights corner_limits (earthed_with network stands ohm earthed) in
      let lowering : HasSolution (standing_elements (with_most ranges network) stands) given.lowering = exists_in (with_most ranges network) stands given.lowering most_limits (earthed_with network stands most earthed) in
      let raising : HasSolution (standing_elements (with_most ranges network) stands) given.raising = exists_in (with_most ranges network) stands given.raising most_limits (earthed_with network stands most earthed) in
      over reference.solution adjoint.solution lowering.solution raising.solution reference.solves adjoint.solves lowering.solves raising.solves
