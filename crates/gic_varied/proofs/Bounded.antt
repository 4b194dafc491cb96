-- How great the currents of varied solutions can be: a lift of one voltage at all grounds is flat, so that potentials lie within 21 times the bound of the reference's.
use Rattle.std.proofs.Common.{◌≡◌, ℕ, ◌+◌, ◌-◌, ◌*◌, ◌^◌, ◌<◌, ◌≤◌, Bool, true, false, List, ℤ, pos, ◌+ℤ◌, ◌-ℤ◌, ◌*ℤ◌, neg_ℤ, ◌≤ℤ◌, unsigned_abs, arith, refl, ap, sym, ◌∙◌, ◌⊎◌, ⊎_elim}
use lib.IntN.{*ℤ_comm, *ℤ-zero}
use Rattle.std.proofs.Math.IntN.{*ℤ-one}
use Rattle.std.specs.List.{All, AllByRecursion}
use Rattle.std.proofs.lemmas.Int.{ints}
use Rattle.std.proofs.lemmas.List.Elements.{recursion_from_All, All-from_recursion}
use Rattle.std.proofs.Math.Nat.{mul-le-mul_left, mul-le-mul_right}
use Rattle.gic_base.specs.declared.limits.TheConstants.{MOST_WALK}
use Rattle.gic_base.proofs.Each.{weaker}
use Rattle.gic_fixed.proofs.Integers.{linear, *ℤ-≤ℤ, ≤ℤ-from_*ℤ, *ℤ-neg_ℤ}
use Rattle.gic_exists.specs.Exists.{HasSolution}
use Rattle.gic_exists.proofs.InNetworks.{exists_in}
use Rattle.gic_model.specs.declared.parts.End.{End}
use Rattle.gic_model.specs.declared.parts.End.TheVariants.{Node, Earth}
use Rattle.gic_model.specs.declared.parts.Element.{Element}
use Rattle.gic_model.specs.declared.parts.Item.{Item}
use Rattle.gic_model.specs.Bound.{IsEarthedWithin}
use Rattle.gic_model.specs.Earthing.{AreEarthed}
use Rattle.gic_model.specs.Limits.{IsWithinLimits, IsElementWithin, AreVolts, most_volts}
use Rattle.gic_model.specs.Network.{Network, ends_at}
use Rattle.gic_model.specs.Solution.{Solution, IsOhm}
use Rattle.gic_model.specs.Standing.{standing_elements, is_live, IsLive, value_at}
use Rattle.gic_model.specs.Sums.{Placed}
use Rattle.gic_model.proofs.Ends.{standing_within, ends_live, from_own, end_own, IsLiveEnd}
use Rattle.gic_model.proofs.Members.{both}
use Rattle.gic_model.proofs.Pushes.{potentials_bounded}
use Rattle.gic_varied.specs.Grounds.{is_ground, HaveNoGroundVolts}
use Rattle.gic_varied.specs.Lifts.{AreLifts, with_least}
use Rattle.gic_varied.specs.Ranges.{Ranges, ground_range, ranges_of, AreInRanges}
use Rattle.gic_varied.specs.Varied.{IsVaried}
use Rattle.gic_varied.specs.Bounds.{AreModest}
use Rattle.gic_varied.specs.Corners.{all_least}
use Rattle.gic_varied.proofs.FlatLifts.{even, flat, solves_flat, flat_lifts}
use Rattle.gic_varied.proofs.Lifted.{raised, lowered}
use Rattle.gic_varied.proofs.OtherGrounds.{earthed_with}
use Rattle.gic_varied.proofs.Regrounded.{SolvesWith, solves_with, standing_with, live_with}

-- over plain numbers: from what a lift bounds of a varied potential
upper : (dr dv b : ℕ) (q p : ℤ) → 0 < dr → p ≤ℤ pos (b * dr) → (pos (dr * 1) *ℤ q) ≤ℤ (pos dv *ℤ (pos 1 *ℤ p +ℤ pos dr *ℤ pos (20 * b))) → q ≤ℤ pos (21 * b * dv)
unfolding lib.IntN.one
upper dr dv b q p some below raise =
    let once : pos 1 *ℤ p ≡ p = *ℤ_comm (pos 1) p ∙ *ℤ-one p in
    let width : dr * (20 * b) + b * dr ≡ 21 * b * dr = omega arith in
    let inner : (pos 1 *ℤ p +ℤ pos dr *ℤ pos (20 * b)) ≤ℤ pos (21 * b * dr) = omega (arith, linear) in
    let step = *ℤ-≤ℤ dv (pos 1 *ℤ p +ℤ pos dr *ℤ pos (20 * b)) (pos (21 * b * dr)) inner in
    let turned : dv * (21 * b * dr) ≡ dr * (21 * b * dv) = omega arith in
    let same : pos (dr * 1) *ℤ q ≡ pos dr *ℤ q = ap (λ (n : ℕ). pos n *ℤ q) (omega arith) in
    ≤ℤ-from_*ℤ dr q (pos (21 * b * dv)) some (omega (arith, linear))

lower : (dr dv b : ℕ) (q p : ℤ) → 0 < dr → neg_ℤ p ≤ℤ pos (b * dr) → (pos dv *ℤ (pos 1 *ℤ p -ℤ pos dr *ℤ pos (20 * b))) ≤ℤ (pos (dr * 1) *ℤ q) → neg_ℤ q ≤ℤ pos (21 * b * dv)
lower dr dv b q p some above low =
    let once : pos 1 *ℤ neg_ℤ p ≡ neg_ℤ (pos 1 *ℤ p) = *ℤ-neg_ℤ (pos 1) p in
    let inner : pos 1 *ℤ neg_ℤ p +ℤ pos dr *ℤ pos (20 * b) ≡ neg_ℤ (pos 1 *ℤ p -ℤ pos dr *ℤ pos (20 * b)) = omega (arith, linear) in
    let turned = ap (λ z. pos dv *ℤ z) inner ∙ *ℤ-neg_ℤ (pos dv) (pos 1 *ℤ p -ℤ pos dr *ℤ pos (20 * b)) in
    let other = *ℤ-neg_ℤ (pos (dr * 1)) q in
    upper dr dv b (neg_ℤ q) (neg_ℤ p) some above (omega (arith, linear))

-- both ways at once
both_ways : (m : ℕ) (z : ℤ) → z ≤ℤ pos m → neg_ℤ z ≤ℤ pos m → unsigned_abs z ≤ m
both_ways m z high low = omega (arith, ints)

one_way : (m : ℕ) (z : ℤ) → unsigned_abs z ≤ m → (z ≤ℤ pos m) × (neg_ℤ z ≤ℤ pos m)
one_way m z h = (omega (arith, ints), omega (arith, ints))

-- Ohm's law over bounded potentials
carries : (r w dv : ℕ) (c f t u : ℤ) → 1000 ≤ r → w ≤ 3000000 → f ≤ℤ pos (21 * 245760000000000000 * dv) → neg_ℤ t ≤ℤ pos (21 * 245760000000000000 * dv) → u ≤ℤ pos 60000000000000 →
    pos r *ℤ c ≡ pos w *ℤ (f -ℤ t +ℤ pos dv *ℤ u) → c ≤ℤ pos (2 ^ 80 * dv)
carries r w dv c f t u ohms few high low volt ohm =
    let push = *ℤ-≤ℤ dv u (pos 60000000000000) volt in
    let all = 2 * (21 * 245760000000000000 * dv) + dv * 60000000000000 in
    let inner : (f -ℤ t +ℤ pos dv *ℤ u) ≤ℤ pos all = omega (arith, linear) in
    let step = *ℤ-≤ℤ w (f -ℤ t +ℤ pos dv *ℤ u) (pos all) inner in
    let more : w * all ≤ 3000000 * all = mul-le-mul_right all few in
    let enough : 3000000 * all ≤ 1000 * (2 ^ 80 * dv) = omega arith in
    let ohms_more : 1000 * (2 ^ 80 * dv) ≤ r * (2 ^ 80 * dv) = mul-le-mul_right (2 ^ 80 * dv) ohms in
    ≤ℤ-from_*ℤ r c (pos (2 ^ 80 * dv)) (omega arith) (omega (arith, linear))

pub varied_bounded : (network : Network) (stands : Item → Bool) (ranges : Ranges) (volts : ℕ → ℤ) (varied : Solution) →
    IsWithinLimits network → IsWithinLimits (with_least ranges network) → AreEarthed (standing_elements network stands) →
    IsEarthedWithin (standing_elements (with_least ranges network) stands) MOST_WALK →
    AreInRanges ranges (λ e. (ranges e).least) (standing_elements network stands) → AreModest ranges (standing_elements network stands) →
    AreVolts volts → HaveNoGroundVolts (standing_elements network stands) volts → IsVaried (standing_elements network stands) ranges volts varied →
    All (λ p. is_ground p.1 ≡ false → unsigned_abs (varied.current p.0) ≤ 2 ^ 80 * varied.denominator) (standing_elements network stands)
varied_bounded network stands ranges volts varied limits least_limits earthed within inside modest volt quiet varies =
    All-from_recursion (λ p. is_ground p.1 ≡ false → unsigned_abs (varied.current p.0) ≤ 2 ^ 80 * varied.denominator) standing
    (weaker (λ p. (IsElementWithin network.nodes p.1 × ((m : ℕ) → ends_at p.1 m ≡ true → is_live standing m ≡ true)) × (is_ground p.1 ≡ false → IsOhm volts varied p))
    (λ p. is_ground p.1 ≡ false → unsigned_abs (varied.current p.0) ≤ 2 ^ 80 * varied.denominator)
    (λ p h other. current_at p h.0.0 h.0.1 (h.1 other)) standing
    (both (λ p. IsElementWithin network.nodes p.1 × ((m : ℕ) → ends_at p.1 m ≡ true → is_live standing m ≡ true)) (λ p. is_ground p.1 ≡ false → IsOhm volts varied p) standing
    (both (λ p. IsElementWithin network.nodes p.1) (λ p. (m : ℕ) → ends_at p.1 m ≡ true → is_live standing m ≡ true) standing inner_limits (ends_live standing))
    (recursion_from_All (λ p. is_ground p.1 ≡ false → IsOhm volts varied p) standing varies.ohm)))
  where
    standing : List Placed
    standing = standing_elements network stands

    least : Element → ℕ
    least e = (ranges e).least

    most : Element → ℕ
    most e = (ranges e).most

    inner_limits : AllByRecursion (λ p. IsElementWithin network.nodes p.1) standing
    inner_limits = standing_within network stands limits

    solved : HasSolution (standing_elements (with_least ranges network) stands) volts
    solved = exists_in (with_least ranges network) stands volts least_limits (earthed_with network stands least earthed)

    reference : Solution
    reference = solved.solution

    dr : ℕ
    dr = reference.denominator

    dv : ℕ
    dv = varied.denominator

    bound : ℕ
    bound = MOST_WALK * most_volts

    refers : SolvesWith standing least volts reference
    refers = solves_with network stands least volts reference solved.solves

    live_least : (k : ℕ) → IsLive standing k → IsLive (standing_elements (with_least ranges network) stands) k
    live_least k live = ap (λ (ps : List Placed). is_live ps k) (standing_with network stands least) ∙ live_with least standing k ∙ live

    reference_bound : (k : ℕ) → IsLive standing k → unsigned_abs (reference.potential k) ≤ bound * dr
    reference_bound k live =
        potentials_bounded network.nodes (standing_elements (with_least ranges network) stands) (standing_within (with_least ranges network) stands least_limits)
        volts reference within volt solved.solves k (live_least k live)

    -- the flat lifts, over potentials of either sign
    lifts_over : (potential : ℕ → ℤ) → ((k : ℕ) → IsLive standing k → potential k ≤ℤ pos (bound * dr)) → AreLifts standing ranges least potential dr (even network (20 * bound))
    lifts_over potential below =
        flat_lifts network stands ranges all_least bound dr potential inside modest
        (weaker (λ p. (m : ℕ) → ends_at p.1 m ≡ true → is_live standing m ≡ true) (λ p. is_ground p.1 ≡ true → potential p.1.from.0 ≤ℤ pos (bound * dr))
        (λ p live ground. below p.1.from.0 (from_own p.1 (is_live standing) live)) standing (ends_live standing))

    raising : AreLifts standing ranges least reference.potential dr (even network (20 * bound))
    raising = lifts_over reference.potential (λ k live. (one_way (bound * dr) (reference.potential k) (reference_bound k live)).0)

    lowering : AreLifts standing ranges least (λ m. neg_ℤ (reference.potential m)) dr (even network (20 * bound))
    lowering = lifts_over (λ m. neg_ℤ (reference.potential m)) (λ k live. (one_way (bound * dr) (reference.potential k) (reference_bound k live)).1)

    flat_solves : SolvesWith standing most (even network (20 * bound)) (flat (20 * bound))
    flat_solves = solves_flat network stands most (20 * bound)

    high_at : (k : ℕ) → IsLive standing k → varied.potential k ≤ℤ pos (21 * bound * dv)
    high_at k live =
        upper dr dv bound (varied.potential k) (reference.potential k) refers.denominator_above_0 (one_way (bound * dr) (reference.potential k) (reference_bound k live)).0
        (raised network.nodes standing inner_limits earthed ranges least volts (even network (20 * bound)) reference varied (flat (20 * bound)) inside quiet refers varies raising flat_solves k live)

    low_at : (k : ℕ) → IsLive standing k → neg_ℤ (varied.potential k) ≤ℤ pos (21 * bound * dv)
    low_at k live =
        lower dr dv bound (varied.potential k) (reference.potential k) refers.denominator_above_0 (one_way (bound * dr) (reference.potential k) (reference_bound k live)).1
        (lowered network.nodes standing inner_limits earthed ranges least volts (even network (20 * bound)) reference varied (flat (20 * bound)) inside quiet refers varies lowering flat_solves k live)

    high_end : (t : End) → IsLiveEnd (is_live standing) t → value_at varied.potential t ≤ℤ pos (21 * bound * dv)
    high_end (Node m) live = high_at m.0 live
    high_end Earth live = omega (arith, linear)

    low_end : (t : End) → IsLiveEnd (is_live standing) t → neg_ℤ (value_at varied.potential t) ≤ℤ pos (21 * bound * dv)
    low_end (Node m) live = low_at m.0 live
    low_end Earth live = omega (arith, linear)

    few_paths : (times : ℕ) → (times ≡ 1) ⊎ (times ≡ 3) → times * 1000000 ≤ 3000000
    few_paths times one_or_three = ⊎_elim (λ is. omega arith) (λ is. omega arith) one_or_three

    current_at : (p : Placed) → IsElementWithin network.nodes p.1 → ((m : ℕ) → ends_at p.1 m ≡ true → is_live standing m ≡ true) → IsOhm volts varied p →
        unsigned_abs (varied.current p.0) ≤ 2 ^ 80 * dv
    current_at p h live ohm =
        let from_live = from_own p.1 (is_live standing) live in
        let to_live = end_own p.1 p.1.to refl (is_live standing) live in
        let f = varied.potential p.1.from.0 in
        let t = value_at varied.potential p.1.to in
        let u = volts p.0 in
        let both_volts = one_way most_volts u (volt p.0) in
        let inner : neg_ℤ (f -ℤ t +ℤ pos dv *ℤ u) ≡ neg_ℤ f -ℤ neg_ℤ t +ℤ neg_ℤ (pos dv *ℤ u) = omega (arith, linear) in
        let times = *ℤ-neg_ℤ (pos dv) u in
        let same : neg_ℤ f -ℤ neg_ℤ t +ℤ pos dv *ℤ neg_ℤ u ≡ neg_ℤ (f -ℤ t +ℤ pos dv *ℤ u) = omega (arith, linear) in
        let turned : pos p.1.micro_ohm *ℤ neg_ℤ (varied.current p.0) ≡ pos (p.1.times * 1000000) *ℤ (neg_ℤ f -ℤ neg_ℤ t +ℤ pos dv *ℤ neg_ℤ u) =
        *ℤ-neg_ℤ (pos p.1.micro_ohm) (varied.current p.0) ∙ ap neg_ℤ ohm ∙ sym (ap (λ z. pos (p.1.times * 1000000) *ℤ z) same ∙ *ℤ-neg_ℤ (pos (p.1.times * 1000000)) (f -ℤ t +ℤ pos dv *ℤ u)) in
        let twice : neg_ℤ (neg_ℤ t) ≡ t = omega (arith, linear) in
        let to_high = high_end p.1.to to_live in
        both_ways (2 ^ 80 * dv) (varied.current p.0)
        (carries p.1.micro_ohm (p.1.times * 1000000) dv (varied.current p.0) f t u h.least_ohm (few_paths p.1.times h.one_or_three) (high_at p.1.from.0 from_live) (low_end p.1.to to_live) both_volts.0 ohm)
        (carries p.1.micro_ohm (p.1.times * 1000000) dv (neg_ℤ (varied.current p.0)) (neg_ℤ f) (neg_ℤ t) (neg_ℤ u) h.least_ohm (few_paths p.1.times h.one_or_three) (low_at p.1.from.0 from_live) (omega (arith, linear)) both_volts.1 turned)

-- the ranges of tolerances up to 90 per cent
modest_range : (percent ohm : ℕ) → percent ≤ 90 → 1000 ≤ ohm → (ground_range percent ohm).most ≤ 20 * (ground_range percent ohm).least
modest_range percent ohm few least =
    let low : ohm * 10 ≤ ohm * (100 - percent) = mul-le-mul_left ohm (omega arith) in
    let high : ohm * (100 + percent) ≤ ohm * 190 = mul-le-mul_left ohm (omega arith) in
    grind arith

pub modest_tolerances : (network : Network) (stands : Item → Bool) (percent : Item → ℕ) → IsWithinLimits network → ((item : Item) → percent item ≤ 90) →
    AreModest (ranges_of percent) (standing_elements network stands)
modest_tolerances network stands percent limits few =
    All-from_recursion (λ p. is_ground p.1 ≡ true → (ranges_of percent p.1).most ≤ 20 * (ranges_of percent p.1).least) (standing_elements network stands)
    (weaker (λ p. IsElementWithin network.nodes p.1) (λ p. is_ground p.1 ≡ true → (ranges_of percent p.1).most ≤ 20 * (ranges_of percent p.1).least)
    (λ p h ground. modest_range (percent p.1.item) p.1.micro_ohm (few p.1.item) h.least_ohm) (standing_elements network stands) (standing_within network stands limits))
