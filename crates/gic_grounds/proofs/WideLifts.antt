-- The voltages of lifts drive no potential far: they are at grounds alone and never above 0.
use Rattle.std.proofs.Common.{◌∙◌, ◌≡◌, ℕ, ◌-◌, ◌*◌, ◌<◌, ◌≤◌, Bool, true, false, cond, List, [], ◌∷◌, map, ℤ, pos, neg_ℤ, ◌*ℤ◌, ◌≤ℤ◌, arith, refl, ap, sym, subst, unsigned_abs}
use lib.IntN.{*ℤ-zero}
use Rattle.std.proofs.lemmas.Int.{ints, clamps}
use Rattle.std.proofs.lemmas.List.Elements.{All-from_recursion, recursion_from_All}
use Rattle.std.specs.Int.{int_max}
use Rattle.std.specs.List.{AllByRecursion}
use Rattle.gic_base.proofs.Each.{weaker}
use Rattle.gic_fixed.specs.Rounding.{ceil_div}
use Rattle.gic_fixed.proofs.Divisions.{ceil_above}
use Rattle.gic_fixed.proofs.Integers.{linear, *ℤ-≤ℤ, ≤ℤ-from_*ℤ}
use Rattle.gic_model.specs.declared.parts.Element.{Element}
use Rattle.gic_model.specs.declared.parts.Item.{Item}
use Rattle.gic_exists.specs.Exists.{EarthedNetworksAreSolved}
use Rattle.gic_model.specs.Earthing.{AreEarthed}
use Rattle.gic_model.specs.Limits.{IsWithinLimits, IsElementWithin, most_wide_volts, AreWideVolts}
use Rattle.gic_model.specs.Network.{Network}
use Rattle.gic_model.specs.Standing.{standing_elements}
use Rattle.gic_model.specs.Sums.{Placed}
use Rattle.gic_net.specs.Net.{standing, stands}
use Rattle.gic_varied.specs.Certified.{AreLiftVolts}
use Rattle.gic_varied.specs.Enclosure.{lift_volt}
use Rattle.gic_varied.specs.Grounds.{is_ground, with_grounds}
use Rattle.gic_varied.specs.Lifts.{with_least}
use Rattle.gic_varied.specs.Ranges.{Range, Ranges}
use Rattle.gic_varied.specs.Reach.{AreLiftsWithin, LiftsReachNoFurther}
use Rattle.gic_model.proofs.Ends.{standing_within}
use Rattle.gic_varied.proofs.Regrounded.{placed_with, standing_with, all_unmapped}
use Rattle.gic_grounds.specs.declared.nets.GroundNets.{GroundNets}
use Rattle.gic_grounds.specs.Nets.{AreExtremesOf, AreSomeExtremes}
use Rattle.gic_grounds.proofs.ReachedEnds.{Reaches}

-- a lift's voltage is not above 0
volt_not_above_0 : (range : Range) (height : ℤ) → 0 < range.least → lift_volt range height ≤ℤ pos 0
volt_not_above_0 range height some =
    let top = int_max height (pos 0) in
    let q = ceil_div (pos (range.most - range.least) *ℤ top) (pos range.least) in
    let none = *ℤ-zero (pos (range.most - range.least)) in
    let nothing = *ℤ-zero (pos range.least) in
    let not_negative : pos 0 ≤ℤ top = omega (arith, linear, clamps) in
    let first = *ℤ-≤ℤ (range.most - range.least) (pos 0) top not_negative in
    let above = ceil_above (pos (range.most - range.least) *ℤ top) range.least some in
    let positive : pos 0 ≤ℤ q = ≤ℤ-from_*ℤ range.least (pos 0) q some (omega (arith, linear)) in
    turned q positive
  where
    turned : (q : ℤ) → pos 0 ≤ℤ q → neg_ℤ q ≤ℤ pos 0
    turned q h = omega (arith, linear)

-- the least resistance of a standing ground is above 0, where the network with these is within the limits
grounds_resist : (network : Network) (stands : Item → Bool) (ranges : Ranges) → IsWithinLimits (with_least ranges network) →
    AllByRecursion (λ p. is_ground p.1 ≡ true → 0 < (ranges p.1).least) (standing_elements network stands)
grounds_resist network stands ranges limits =
    weaker (λ p. IsElementWithin network.nodes (placed_with least p).1) (λ p. is_ground p.1 ≡ true → 0 < least p.1) one standing
    (all_unmapped (placed_with least) (λ p. IsElementWithin network.nodes p.1) standing
    (subst (λ (ps : List Placed). AllByRecursion (λ p. IsElementWithin network.nodes p.1) ps) (standing_with network stands least) (standing_within (with_least ranges network) stands limits)))
  where
    least : Element → ℕ
    least e = (ranges e).least

    standing : List Placed
    standing = standing_elements network stands

    one : (p : Placed) → IsElementWithin network.nodes (placed_with least p).1 → is_ground p.1 ≡ true → 0 < least p.1
    one p h ground =
        let resistance : cond (is_ground p.1) (least p.1) p.1.micro_ohm ≡ least p.1 = ap (λ b. cond b (least p.1) p.1.micro_ohm) ground in
        let some = subst (λ (n : ℕ). 1000 ≤ n) resistance h.least_ohm in
        omega (arith, some)

-- what is known of the voltages at each element
module _ (ranges : Ranges) (height volts : ℕ → ℤ) (wide : AreWideVolts volts) (ohm : Element → ℕ) where
  abbrev IsLifted : Placed → Type 0
  IsLifted p = volts p.0 ≡ cond (is_ground p.1) (lift_volt (ranges p.1) (height p.1.from.0)) (pos 0)

  abbrev Resists : Placed → Type 0
  Resists p = is_ground p.1 ≡ true → 0 < (ranges p.1).least

  elsewhere : (p : Placed) → IsLifted p → is_ground p.1 ≡ false → volts p.0 ≡ pos 0
  elsewhere p is none = is ∙ ap (λ b. cond b (lift_volt (ranges p.1) (height p.1.from.0)) (pos 0)) none

  not_above : (p : Placed) → IsLifted p → Resists p → volts p.0 ≤ℤ pos 0
  not_above p is resists = by (is_ground p.1) refl
    where
      by : (b : Bool) → is_ground p.1 ≡ b → volts p.0 ≤ℤ pos 0
      by true ground =
          let volt = is ∙ ap (λ b. cond b (lift_volt (ranges p.1) (height p.1.from.0)) (pos 0)) ground in
          subst (λ (z : ℤ). z ≤ℤ pos 0) (sym volt) (volt_not_above_0 (ranges p.1) (height p.1.from.0) (resists ground))
      by false none = subst (λ (z : ℤ). z ≤ℤ pos 0) (sym (elsewhere p is none)) (omega (arith, ints))

  not_below : (p : Placed) → neg_ℤ (pos most_wide_volts) ≤ℤ volts p.0
  not_below p = let most = wide p.0 in omega (arith, ints, most)

  all_elsewhere : (ps : List Placed) → AllByRecursion IsLifted ps → AllByRecursion (λ p. is_ground p.1 ≡ false → volts p.0 ≡ pos 0) (map (placed_with ohm) ps)
  all_elsewhere [] h = tt
  all_elsewhere (p ∷ ps) h = (elsewhere p h.0, all_elsewhere ps h.1)

  all_above : (ps : List Placed) → AllByRecursion IsLifted ps → AllByRecursion Resists ps → AllByRecursion (λ p. volts p.0 ≤ℤ pos 0) (map (placed_with ohm) ps)
  all_above [] h g = tt
  all_above (p ∷ ps) h g = (not_above p h.0 g.0, all_above ps h.1 g.1)

  all_below : (ps : List Placed) → AllByRecursion (λ p. neg_ℤ (pos most_wide_volts) ≤ℤ volts p.0) (map (placed_with ohm) ps)
  all_below [] = tt
  all_below (p ∷ ps) = (not_below p, all_below ps)

  -- over the elements of one network they are lifts in that with other grounds
  pub lifts_within : (network : Network) (stands : Item → Bool) → IsWithinLimits (with_least ranges network) → AreLiftVolts (standing_elements network stands) ranges height volts →
      AreLiftsWithin (standing_elements (with_grounds ohm network) stands) most_wide_volts volts
  lifts_within network stands limits are =
      let ps = standing_elements network stands in
      let each = recursion_from_All IsLifted ps are in
      subst (λ (qs : List Placed). AreLiftsWithin qs most_wide_volts volts) (sym (standing_with network stands ohm)) (record {
        elsewhere = All-from_recursion (λ p. is_ground p.1 ≡ false → volts p.0 ≡ pos 0) (map (placed_with ohm) ps) (all_elsewhere ps each);
        not_above_0 = All-from_recursion (λ p. volts p.0 ≤ℤ pos 0) (map (placed_with ohm) ps) (all_above ps each (grounds_resist network stands ranges limits));
        not_below = All-from_recursion (λ p. neg_ℤ (pos most_wide_volts) ≤ℤ volts p.0) (map (placed_with ohm) ps) (all_below ps);
      })

-- over plain numbers
not_far : (p : ℤ) (n : ℕ) → pos 0 ≤ℤ p → p ≤ℤ pos n → unsigned_abs p ≤ n
not_far p n above most = omega (arith, ints, above, most)

-- some solution for a lift's voltages reaches no further than the greatest of them may
pub lifts_reach : (nets : GroundNets) (height volts : ℕ → ℤ) → EarthedNetworksAreSolved → LiftsReachNoFurther → IsWithinLimits nets.least.network → IsWithinLimits nets.most.network →
    AreSomeExtremes nets → AreEarthed (standing nets.most) → AreWideVolts volts →
    ((network : Network) (stands : Item → Bool) (ranges : Ranges) → AreExtremesOf network stands ranges nets → AreLiftVolts (standing_elements network stands) ranges height volts) →
    Reaches (standing nets.most) volts
lifts_reach nets height volts exists reach least_limits most_limits extremes earthed wide lifts =
    let found = exists nets.most.network (stands nets.most) volts most_limits earthed in
    let are = subst (λ (ps : List Placed). AreLiftsWithin ps most_wide_volts volts) (sym extremes.are.most_standing)
    (lifts_within extremes.ranges height volts wide (λ e. (extremes.ranges e).most) extremes.network extremes.stands
    (subst IsWithinLimits extremes.are.least_network least_limits) (lifts extremes.network extremes.stands extremes.ranges extremes.are)) in
    record {
      solution = found.solution;
      solves = found.solves;
      within = λ k live.
          let both = reach nets.most.network (stands nets.most) most_wide_volts volts found.solution k most_limits earthed are found.solves live in
          not_far (found.solution.potential k) (most_wide_volts * found.solution.denominator) both.0 both.1;
    }
