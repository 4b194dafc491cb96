-- The voltages of lifts, over the standing elements.
use Rattle.std.proofs.Common.{◌≡◌, ℕ, ◌+◌, ◌-◌, ◌*◌, ◌^◌, ◌<◌, ◌≤◌, Bool, true, false, cond, List, length, set, arith, refl, ap, ap₂, sym, ⊎_elim, ◌∙◌, ℤ, pos, ◌-ℤ◌, ◌*ℤ◌, neg_ℤ, unsigned_abs, to_z, of_z, w64}
use Rattle.std.specs.Prelude.{FitsSigned}
use Rattle.std.specs.Int.{w128, int_max}
use Rattle.std.specs.List.{enumerate_from}
use Rattle.std.proofs.Math.Nat.{mul-le-mul}
use Rattle.std.proofs.lemmas.Bool.{cases_lt}
use Rattle.std.proofs.lemmas.Int.{ints, clamps, unsigned_abs-mul, fits_signed_from_abs, to_z-of_z}
use Rattle.std.proofs.lemmas.List.{get_or-set_same, get_or-set_other}
use Rattle.std.proofs.lemmas.List.Elements.{All-from_recursion}
use Rattle.gic_fixed.specs.Rounding.{ceil_div}
use Rattle.gic_model.specs.declared.parts.Element.{Element}
use Rattle.gic_model.specs.declared.parts.Item.{Item}
use Rattle.gic_model.specs.Network.{Network}
use Rattle.gic_model.specs.Standing.{standing_elements}
use Rattle.gic_model.specs.Sums.{Placed}
use Rattle.gic_model.specs.Voltages.{number_at}
use Rattle.gic_model.proofs.Members.{kept}
use Rattle.gic_net.proofs.Kept.{IsIn, each_in}
use Rattle.gic_net.specs.Net.{element_of}
use Rattle.gic_varied.specs.Certified.{AreLiftVolts}
use Rattle.gic_varied.specs.Enclosure.{lift_volt}
use Rattle.gic_varied.specs.Grounds.{is_ground, regrounded}
use Rattle.gic_varied.specs.Lifts.{with_least, with_most}
use Rattle.gic_varied.specs.Ranges.{Range, Ranges}
use Rattle.gic_grounds.specs.Lifting.{lift_at}
use Rattle.gic_grounds.specs.Modest.{IsModest}
use Rattle.gic_grounds.proofs.Extremes.{element_with}
use Rattle.gic_grounds.proofs.NodeLists.{ceil_small}

-- a lift's voltage is at most 19 times as many nanovolts as the potential has units
pub lift_within : (least most : ℕ) (height : ℤ) → 0 < least → IsModest least most → unsigned_abs height ≤ 15000000000000000 →
    unsigned_abs (ceil_div (pos (most - least) *ℤ int_max height (pos 0)) (pos least)) ≤ 285000000000000000
lift_within least most height some modest small =
    let top = int_max height (pos 0) in
    let below : unsigned_abs top ≤ 15000000000000000 = omega (arith, ints, clamps, small) in
    let size = unsigned_abs-mul (pos (most - least)) top in
    let reach : most - least ≤ 19 * least = omega (arith, modest.twentyfold) in
    let product : (most - least) * unsigned_abs top ≤ 19 * least * 15000000000000000 = mul-le-mul reach below in
    ceil_small (pos (most - least) *ℤ top) least 285000000000000000 some (omega (arith, size, product))

-- its rise before it is divided fits
pub rise_fits : (least most : ℕ) (height : ℤ) → IsModest least most → least < 2 ^ 32 → unsigned_abs height ≤ 15000000000000000 →
    FitsSigned w128 (pos (most - least) *ℤ int_max height (pos 0))
rise_fits least most height modest few small =
    let top = int_max height (pos 0) in
    let below : unsigned_abs top ≤ 15000000000000000 = omega (arith, ints, clamps, small) in
    let size = unsigned_abs-mul (pos (most - least)) top in
    let reach : most - least ≤ 19 * 2 ^ 32 = omega (arith, modest.twentyfold, few) in
    let product : (most - least) * unsigned_abs top ≤ 19 * 2 ^ 32 * 15000000000000000 = mul-le-mul reach below in
    fits_signed_from_abs w128 (pos (most - least) *ℤ top) (omega (arith, size, product))

-- what the code makes of it, rounded up
pub lifted : (least most : ℕ) (height over top rise under lift : ℤ) → 0 < least → IsModest least most → least < 2 ^ 32 →
    unsigned_abs height ≤ 15000000000000000 →
    over ≡ pos (most - least) → top ≡ int_max (to_z w128 (of_z w128 height)) (pos 0) →
    rise ≡ to_z w128 (of_z w128 (to_z w128 (of_z w128 over) *ℤ to_z w128 (of_z w128 top))) →
    under ≡ pos least → lift ≡ ceil_div rise (to_z w128 (of_z w128 under)) →
    lift ≡ ceil_div (pos (most - least) *ℤ int_max height (pos 0)) (pos least)
lifted least most height over top rise under lift some modest few small is_over is_top is_rise is_under is_lift =
    let size : most ≤ 20 * 2 ^ 32 = omega (arith, modest.twentyfold, few) in
    let over_same : to_z w128 (of_z w128 over) ≡ pos (most - least) =
    ap (λ (z : ℤ). to_z w128 (of_z w128 z)) is_over
    ∙ to_z-of_z w128 (pos (most - least)) (fits_signed_from_abs w128 (pos (most - least)) (omega (arith, size))) in
    let height_same : to_z w128 (of_z w128 height) ≡ height = to_z-of_z w128 height
    (fits_signed_from_abs w128 height (omega (arith, small))) in
    let top_small : unsigned_abs (int_max height (pos 0)) ≤ 15000000000000000 = omega (arith, ints, clamps, small) in
    let top_same : to_z w128 (of_z w128 top) ≡ int_max height (pos 0) =
    ap (λ (z : ℤ). to_z w128 (of_z w128 z)) (is_top ∙ ap (λ (z : ℤ). int_max z (pos 0)) height_same)
    ∙ to_z-of_z w128 (int_max height (pos 0)) (fits_signed_from_abs w128 (int_max height (pos 0)) (omega (arith, top_small))) in
    let rise_same : rise ≡ pos (most - least) *ℤ int_max height (pos 0) =
    is_rise ∙ ap₂ (λ (a b : ℤ). to_z w128 (of_z w128 (a *ℤ b))) over_same top_same
    ∙ to_z-of_z w128 (pos (most - least) *ℤ int_max height (pos 0)) (rise_fits least most height modest few small) in
    let under_same : to_z w128 (of_z w128 under) ≡ pos least =
    ap (λ (z : ℤ). to_z w128 (of_z w128 z)) is_under
    ∙ to_z-of_z w128 (pos least) (fits_signed_from_abs w128 (pos least) (omega (arith, few))) in
    is_lift ∙ ap₂ (λ (a b : ℤ). ceil_div a b) rise_same under_same

-- turned and cut to 64 bits it is the same with its sign turned
pub lowered : (lift : ℤ) → unsigned_abs lift ≤ 285000000000000000 →
    to_z w64 (of_z w64 (to_z w128 (of_z w128 (pos 0 -ℤ to_z w128 (of_z w128 lift))))) ≡ neg_ℤ lift
lowered lift small =
    let inner : to_z w128 (of_z w128 lift) ≡ lift = to_z-of_z w128 lift (fits_signed_from_abs w128 lift (omega (arith, small))) in
    let turned : pos 0 -ℤ lift ≡ neg_ℤ lift = omega (arith, ints) in
    let size : unsigned_abs (neg_ℤ lift) ≤ 285000000000000000 = omega (arith, ints, small) in
    let deep : to_z w128 (of_z w128 (pos 0 -ℤ to_z w128 (of_z w128 lift))) ≡ neg_ℤ lift =
    ap (λ (z : ℤ). to_z w128 (of_z w128 (pos 0 -ℤ z))) inner ∙ ap (λ (z : ℤ). to_z w128 (of_z w128 z)) turned
    ∙ to_z-of_z w128 (neg_ℤ lift) (fits_signed_from_abs w128 (neg_ℤ lift) (omega (arith, size))) in
    ap (λ (z : ℤ). to_z w64 (of_z w64 z)) deep ∙ to_z-of_z w64 (neg_ℤ lift) (fits_signed_from_abs w64 (neg_ℤ lift) (omega (arith, size)))

-- one more element has its voltage
pub next_lift : (lift : ℕ → ℤ) (old new : List ℤ) (place : ℕ) (volt : ℤ) → place < length old → new ≡ set old place volt →
    volt ≡ lift place →
    ((k : ℕ) → k < place → number_at old k ≡ lift k) → (k : ℕ) → k < place + 1 → number_at new k ≡ lift k
next_lift lift old new place volt inside is here before k below = ⊎_elim
    (λ less. ap (λ (l : List ℤ). number_at l k) is ∙ get_or-set_other old place k volt (pos 0) (λ same. absurd (omega (arith, less, same))) ∙ before k less)
    (λ past. let there : k ≡ place = omega (arith, below, past) in
    ap (λ (l : List ℤ). number_at l k) is ∙ ap (λ (j : ℕ). number_at (set old place volt) j) there
    ∙ get_or-set_same old place volt (pos 0) inside ∙ here ∙ ap lift (sym there))
    (cases_lt k place)

-- a ground with its resistances in the two networks has its range there
ranged : (ground : Bool) (range : Range) (ohm : ℕ) (height : ℤ) →
    cond ground (lift_volt (record { least = cond ground range.least ohm; most = cond ground range.most ohm }) height) (pos 0) ≡ cond ground
    (lift_volt range height) (pos 0)
ranged true range ohm height = refl
ranged false range ohm height = refl

module _ (network : Network) (ranges : Ranges) (height : ℕ → ℤ) where
  -- the voltage at a place of the two networks
  lift_with : (place : ℕ) → place < length network.list →
      lift_at (with_least ranges network) (with_most ranges network) height place ≡
      (let e = element_of network place in cond (is_ground e) (lift_volt (ranges e) (height e.from.0)) (pos 0))
  lift_with place inside =
      let e = element_of network place in
      let least = element_with (λ x. (ranges x).least) network place inside in
      let most = element_with (λ x. (ranges x).most) network place inside in
      ap (λ (x : Element). cond (is_ground x) (lift_volt (record { least = x.micro_ohm; most = (element_of (with_most ranges network) place).micro_ohm }) (height x.from.0)) (pos 0)) least
      ∙ ap (λ (x : Element). cond (is_ground e) (lift_volt (record { least = (regrounded (λ y. (ranges y).least) e).micro_ohm; most = x.micro_ohm }) (height e.from.0)) (pos 0)) most
      ∙ ranged (is_ground e) (ranges e) e.micro_ohm (height e.from.0)

  -- so over what stands
  pub lifts_stand : (stands : Item → Bool) (least most : Network) (volts : ℕ → ℤ) → least ≡ with_least ranges network →
      most ≡ with_most ranges network →
      ((place : ℕ) → place < length network.list → volts place ≡ lift_at least most height place) →
      AreLiftVolts (standing_elements network stands) ranges height volts
  lifts_stand stands least most volts is_least is_most each =
      let Q = λ (p : Placed). volts p.0 ≡ cond (is_ground p.1) (lift_volt (ranges p.1) (height p.1.from.0)) (pos 0) in
      All-from_recursion Q (standing_elements network stands)
      (kept (λ p. stands p.1.item) (IsIn network.list) Q
      (λ p is in_list.
      each p.0 in_list.0
      ∙ ap (λ (n : Network). lift_at n most height p.0) is_least
      ∙ ap (λ (n : Network). lift_at (with_least ranges network) n height p.0) is_most
      ∙ lift_with p.0 in_list.0
      ∙ ap (λ (e : Element). cond (is_ground e) (lift_volt (ranges e) (height e.from.0)) (pos 0)) (sym in_list.1))
      (enumerate_from 0 network.list) (each_in network.list))
