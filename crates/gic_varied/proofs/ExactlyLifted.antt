-- Potentials of varied solutions lie within the exact lifts of a reference that has its grounds at their least.
use Rattle.std.proofs.Common.{◌≡◌, ℕ, ◌-◌, ◌*◌, ◌<◌, ◌≤◌, true, false, List, [], ◌∷◌, ℤ, pos, ◌+ℤ◌, ◌-ℤ◌, ◌*ℤ◌, neg_ℤ, ◌≤ℤ◌, ◌<ℤ◌, arith, refl, ap, sym, subst, ◌∙◌}
use lib.IntN.{*ℤ-zero}
use borrow.Author.Differences.{same_in}
use Rattle.std.specs.Int.{int_max}
use Rattle.std.specs.List.{AllByRecursion}
use Rattle.std.proofs.lemmas.Int.{clamps, by_lt_z}
use Rattle.std.proofs.lemmas.List.Elements.{recursion_from_All}
use Rattle.gic_fixed.proofs.Divisions.{positive_product}
use Rattle.gic_fixed.proofs.Integers.{linear, up-*ℤ, down-*ℤ, *ℤ-≤ℤ, ≤ℤ-from_*ℤ, *ℤ-neg_ℤ, *ℤ_left_comm}
use Rattle.gic_model.specs.Earthing.{AreEarthed}
use Rattle.gic_model.specs.Limits.{IsElementWithin}
use Rattle.gic_model.specs.Solution.{Solution, IsOhm}
use Rattle.gic_model.specs.Standing.{IsLive, value_at}
use Rattle.gic_model.specs.Sums.{Placed}
use Rattle.gic_model.proofs.Ends.{some_times}
use Rattle.gic_varied.specs.Grounds.{is_ground, HaveNoGroundVolts}
use Rattle.gic_varied.specs.Lifts.{IsRaisedAtMost, IsLoweredAtMost}
use Rattle.gic_varied.specs.Near.{IsExactLift, IsLiftedGround, heights, depths}
use Rattle.gic_varied.specs.Ranges.{Range, Ranges, IsInRange, AreInRanges}
use Rattle.gic_varied.specs.Varied.{IsVaried, IsGroundWithin, IsOhmWithin}
use Rattle.gic_varied.proofs.GroundCurrents.{twice, MakesUp, ground_below_by, minus_times}
use Rattle.gic_varied.proofs.Lifted.{LiftsAt, no_volt, other_ohms, raised_by, turned_back}
use Rattle.gic_varied.proofs.Regrounded.{placed_with, SolvesWith}
use Rattle.gic_varied.proofs.Threes.{three, dist}
use Rattle.gic_varied.proofs.Turned.{turned, turned_volts, solves_turned, varied_turned, quiet_turned}
use Rattle.gic_varied.proofs.Within.{ground_drive}

-- what the exact lift takes away at a ground, times the least resistance
abbrev taken : Range → ℤ → ℤ
taken range h = neg_ℤ (pos (range.most - range.least) *ℤ h)

-- over plain numbers: it makes up for what the potential p, not above the height h, drives more
exact_makes_up : (range : Range) (w v d : ℕ) (p h : ℤ) → range.least ≤ range.most → p ≤ℤ h → pos 0 ≤ℤ h → MakesUp range w range.least v (d * range.least) d p (taken range h)
exact_makes_up range w v d p h order below above = record {
  to_most =
      let difference : pos (most - least) ≡ pos most -ℤ pos least = omega (arith, linear) in
      let split = ap (λ z. z *ℤ (pos least *ℤ low)) difference ∙ minus_times most least (pos least *ℤ low) in
      let step = *ℤ-≤ℤ (most - least) (pos least *ℤ low) (pos least *ℤ high) (*ℤ-≤ℤ least low high low_high) in
      let out = ap (λ z. pos least *ℤ z) driven ∙ *ℤ-neg_ℤ (pos least) (pos (most - least) *ℤ high) in
      let turn = *ℤ_left_comm (pos least) (pos (most - least)) high in
      let first = ap (λ z. pos most *ℤ z) wide in
      let second = ap (λ z. pos least *ℤ z) wide in
      omega (arith, linear);
  to_least =
      let some = *ℤ-≤ℤ (most - least) (pos 0) high not_below in
      let none = *ℤ-zero (pos (most - least)) in
      let out = ap (λ z. pos least *ℤ (pos least *ℤ z)) driven in
      let inner = *ℤ-≤ℤ least (neg_ℤ (pos (most - least) *ℤ high)) (pos 0) (omega (arith, linear)) in
      let nothing = *ℤ-zero (pos least) in
      let outer = *ℤ-≤ℤ least (pos least *ℤ neg_ℤ (pos (most - least) *ℤ high)) (pos 0) (omega (arith, linear)) in
      omega (arith, linear);
}
  where
    least : ℕ
    least = range.least

    most : ℕ
    most = range.most

    low : ℤ
    low = twice w (v * d) p

    high : ℤ
    high = twice w (v * d) h

    low_high : low ≤ℤ high
    low_high = *ℤ-≤ℤ w (pos (v * d) *ℤ p) (pos (v * d) *ℤ h) (*ℤ-≤ℤ (v * d) p h below)

    not_below : pos 0 ≤ℤ high
    not_below =
        let inner = *ℤ-≤ℤ (v * d) (pos 0) h above in
        let none = *ℤ-zero (pos (v * d)) in
        let outer = *ℤ-≤ℤ w (pos 0) (pos (v * d) *ℤ h) (omega (arith, linear)) in
        let nothing = *ℤ-zero (pos w) in
        omega (arith, linear)

    wide : twice w (v * (d * least)) p ≡ pos least *ℤ low
    wide = same_in _ _ (simp (up-*ℤ, down-*ℤ) (omega arith))

    driven : twice w (v * d) (taken range h) ≡ neg_ℤ (pos (most - least) *ℤ high)
    driven =
        let inner = *ℤ-neg_ℤ (pos (v * d)) (pos (most - least) *ℤ h) in
        let turn : pos w *ℤ (pos (v * d) *ℤ (pos (most - least) *ℤ h)) ≡ pos (most - least) *ℤ high =
        ap (λ z. pos w *ℤ z) (*ℤ_left_comm (pos (v * d)) (pos (most - least)) h) ∙ *ℤ_left_comm (pos w) (pos (most - least)) (pos (v * d) *ℤ h) in
        ap (λ z. pos w *ℤ z) inner ∙ *ℤ-neg_ℤ (pos w) (pos (v * d) *ℤ (pos (most - least) *ℤ h)) ∙ ap neg_ℤ turn

-- the exact lift at a ground, with its potential and its current times the least resistance
exact_law : (range : Range) (w : ℕ) (j y h : ℤ) → pos (range.least * range.most) *ℤ j ≡ pos w *ℤ (pos range.least *ℤ y -ℤ pos (range.most - range.least) *ℤ h) →
    pos range.most *ℤ (pos range.least *ℤ j) ≡ pos w *ℤ (pos range.least *ℤ y +ℤ taken range h)
exact_law range w j y h law =
    let left : pos range.most *ℤ (pos range.least *ℤ j) ≡ pos (range.least * range.most) *ℤ j = same_in _ _ (simp (up-*ℤ, down-*ℤ) (omega arith)) in
    let inner : pos range.least *ℤ y +ℤ taken range h ≡ pos range.least *ℤ y -ℤ pos (range.most - range.least) *ℤ h = omega (arith, linear) in
    left ∙ law ∙ sym (ap (λ z. pos w *ℤ z) inner)

-- three numbers, of which the second is over so many times its denominator
over_least : (l v d : ℕ) (a b c : ℤ) → three v (d * l) d a (pos l *ℤ b) c ≡ pos l *ℤ three v d d a b c
over_least l v d a b c =
    let first : pos l *ℤ (pos (v * d) *ℤ a) ≡ pos (v * (d * l)) *ℤ a = same_in _ _ (simp (up-*ℤ, down-*ℤ) (omega arith)) in
    let second = *ℤ_left_comm (pos l) (pos (v * d)) b in
    let third : pos l *ℤ (pos (d * d) *ℤ c) ≡ pos (d * (d * l)) *ℤ c = same_in _ _ (simp (up-*ℤ, down-*ℤ) (omega arith)) in
    let split = dist (pos l) (pos (v * d) *ℤ a) (pos (v * d) *ℤ b) (pos (d * d) *ℤ c) in
    omega (arith, linear)

-- the sign of a product with a factor above 0
sign_out : (l : ℕ) (z : ℤ) → 0 < l → (pos l *ℤ z) <ℤ pos 0 → z <ℤ pos 0
sign_out l z some h = by_lt_z z (pos 0) (λ less. less) (λ more. absurd (never more))
  where
    never : pos 0 ≤ℤ z → ⊥
    never more =
        let times = *ℤ-≤ℤ l (pos 0) z more in
        let none = *ℤ-zero (pos l) in
        omega (arith, linear)

sign_in : (l : ℕ) (z : ℤ) → 0 < l → z <ℤ pos 0 → (pos l *ℤ z) <ℤ pos 0
sign_in l z some h = by_lt_z (pos l *ℤ z) (pos 0) (λ less. less) (λ more. absurd (never more))
  where
    never : pos 0 ≤ℤ (pos l *ℤ z) → ⊥
    never more =
        let none = *ℤ-zero (pos l) in
        let out = ≤ℤ-from_*ℤ l (pos 0) z some (omega (arith, linear)) in
        omega (arith, linear)

-- where the varied potential is above the reference and the exact lift, so is its current
exact_below : (range : Range) (w v d : ℕ) (i j c p y h q : ℤ) → 0 < w → IsInRange range range.least →
    pos range.least *ℤ i ≡ pos w *ℤ p → pos (range.least * range.most) *ℤ j ≡ pos w *ℤ (pos range.least *ℤ y -ℤ pos (range.most - range.least) *ℤ h) →
    IsOhmWithin range (pos w *ℤ q) c → p ≤ℤ h → pos 0 ≤ℤ h → pos 0 ≤ℤ y → three v d d p y q <ℤ pos 0 → three v d d i j c <ℤ pos 0
exact_below range w v d i j c p y h q some inside first second varies below above lifted higher =
    let l = range.least in
    let in_least = sign_in l (three v d d p y q) inside.above_0 higher in
    let times = *ℤ-≤ℤ l (pos 0) y lifted in
    let none = *ℤ-zero (pos l) in
    let less = ground_below_by range w l v (d * l) d i (pos l *ℤ j) c p (pos l *ℤ y) (taken range h) q some inside first (exact_law range w j y h second) varies
    (exact_makes_up range w v d p h inside.at_most below above) (omega (arith, linear)) (subst (λ (z : ℤ). z <ℤ pos 0) (sym (over_least l v d p y q)) in_least) in
    sign_out l (three v d d i j c) inside.above_0 (subst (λ (z : ℤ). z <ℤ pos 0) (over_least l v d i j c) less)

-- the exact lift below 0 only brings current
exact_brings : (range : Range) (w : ℕ) (j y h : ℤ) → 0 < w → IsInRange range range.least → pos 0 ≤ℤ h →
    pos (range.least * range.most) *ℤ j ≡ pos w *ℤ (pos range.least *ℤ y -ℤ pos (range.most - range.least) *ℤ h) → y <ℤ pos 0 → j <ℤ pos 0
exact_brings range w j y h some inside above law below =
    let taken_off = *ℤ-≤ℤ (range.most - range.least) (pos 0) h above in
    let none = *ℤ-zero (pos (range.most - range.least)) in
    let least = sign_in range.least y inside.above_0 below in
    let drive = sign_in w (pos range.least *ℤ y -ℤ pos (range.most - range.least) *ℤ h) some (omega (arith, linear)) in
    sign_out (range.least * range.most) j (positive_product range.least range.most inside.above_0 (let order = inside.at_most in let first = inside.above_0 in omega arith))
    (subst (λ (z : ℤ). z <ℤ pos 0) (sym law) drive)

-- heights are above their potentials and above 0
height_above : (z : ℤ) → (z ≤ℤ int_max z (pos 0)) × (pos 0 ≤ℤ int_max z (pos 0))
height_above z = (omega (arith, linear, clamps), omega (arith, linear, clamps))

module _ (nodes : ℕ) (standing : List Placed) (within : AllByRecursion (λ p. IsElementWithin nodes p.1) standing) (earthed : AreEarthed standing)
    (ranges : Ranges) (volts : ℕ → ℤ) (reference varied lift : Solution)
    (inside : AreInRanges ranges (λ e. (ranges e).least) standing) (quiet : HaveNoGroundVolts standing volts)
    (refers : SolvesWith standing (λ e. (ranges e).least) volts reference) (varies : IsVaried standing ranges volts varied)
    (exact : IsExactLift standing ranges (heights reference.potential) lift) (over : lift.denominator ≡ reference.denominator) where
  each_lift : AllByRecursion (LiftsAt reference varied lift) standing
  each_lift = gather standing within
      (recursion_from_All (λ p. is_ground p.1 ≡ true → volts p.0 ≡ pos 0) standing quiet)
      (recursion_from_All (λ p. is_ground p.1 ≡ true → IsInRange (ranges p.1) (ranges p.1).least) standing inside)
      (recursion_from_All (λ p. is_ground p.1 ≡ false → IsOhm (λ place. pos 0) lift p) standing exact.ohm)
      (recursion_from_All (λ p. is_ground p.1 ≡ true → IsLiftedGround ranges (heights reference.potential) lift p) standing exact.grounds)
      refers.by_ohm
      (recursion_from_All (λ p. is_ground p.1 ≡ true → IsGroundWithin ranges varied p) standing varies.grounds)
    where
      gather : (ps : List Placed) → AllByRecursion (λ p. IsElementWithin nodes p.1) ps →
          AllByRecursion (λ p. is_ground p.1 ≡ true → volts p.0 ≡ pos 0) ps → AllByRecursion (λ p. is_ground p.1 ≡ true → IsInRange (ranges p.1) (ranges p.1).least) ps →
          AllByRecursion (λ p. is_ground p.1 ≡ false → IsOhm (λ place. pos 0) lift p) ps → AllByRecursion (λ p. is_ground p.1 ≡ true → IsLiftedGround ranges (heights reference.potential) lift p) ps →
          AllByRecursion (λ p. IsOhm volts reference (placed_with (λ e. (ranges e).least) p)) ps → AllByRecursion (λ p. is_ground p.1 ≡ true → IsGroundWithin ranges varied p) ps →
          AllByRecursion (LiftsAt reference varied lift) ps
      gather [] a q b c d e f = tt
      gather (p ∷ ps) a q b c d e f = (
        record {
          undriven = λ other. no_volt (pos (p.1.times * 1000000)) (lift.potential p.1.from.0) (value_at lift.potential p.1.to) (pos lift.denominator) (pos 0) (pos p.1.micro_ohm) (lift.current p.0) refl (c.0 other);
          brings = λ ground.
              let some = some_times nodes p a.0 in
              exact_brings (ranges p.1) (p.1.times * 1000000) (lift.current p.0) (lift.potential p.1.from.0) (heights reference.potential p.1.from.0) (omega arith) (b.0 ground)
              (height_above (reference.potential p.1.from.0)).1 (d.0 ground);
          makes_up = λ ground lifted.
              let some = some_times nodes p a.0 in
              subst (λ (x : ℕ). three varied.denominator x reference.denominator (reference.potential p.1.from.0) (lift.potential p.1.from.0) (varied.potential p.1.from.0) <ℤ pos 0 →
              three varied.denominator x reference.denominator (reference.current p.0) (lift.current p.0) (varied.current p.0) <ℤ pos 0) (sym over)
              (exact_below (ranges p.1) (p.1.times * 1000000) varied.denominator reference.denominator (reference.current p.0) (lift.current p.0) (varied.current p.0)
              (reference.potential p.1.from.0) (lift.potential p.1.from.0) (heights reference.potential p.1.from.0) (varied.potential p.1.from.0) (omega arith) (b.0 ground)
              (ground_drive (λ el. (ranges el).least) volts reference p ground (q.0 ground) e.0) (d.0 ground) (f.0 ground)
              (height_above (reference.potential p.1.from.0)).0 (height_above (reference.potential p.1.from.0)).1 lifted);
        },
        gather ps a.1 q.1 b.1 c.1 d.1 e.1 f.1,
      )

  pub exactly_raised : (k : ℕ) → IsLive standing k → IsRaisedAtMost varied reference lift k
  exactly_raised =
      raised_by nodes standing within earthed volts reference varied lift (other_ohms standing (λ e. (ranges e).least) volts reference refers) refers.kirchhoff
      (recursion_from_All (λ p. is_ground p.1 ≡ false → IsOhm volts varied p) standing varies.ohm) varies.kirchhoff each_lift exact.kirchhoff

pub exactly_lowered : (nodes : ℕ) (standing : List Placed) (within : AllByRecursion (λ p. IsElementWithin nodes p.1) standing) → AreEarthed standing →
    (ranges : Ranges) (volts : ℕ → ℤ) (reference varied lift : Solution) → AreInRanges ranges (λ e. (ranges e).least) standing → HaveNoGroundVolts standing volts →
    SolvesWith standing (λ e. (ranges e).least) volts reference → IsVaried standing ranges volts varied →
    IsExactLift standing ranges (depths reference.potential) lift → lift.denominator ≡ reference.denominator → (k : ℕ) → IsLive standing k → IsLoweredAtMost varied reference lift k
exactly_lowered nodes standing within earthed ranges volts reference varied lift inside quiet refers varies exact over k live =
    turned_back reference.denominator lift.denominator varied.denominator (reference.potential k) (lift.potential k) (varied.potential k)
    (exactly_raised nodes standing within earthed ranges (turned_volts volts) (turned reference) (turned varied) lift inside (quiet_turned standing volts quiet)
    (solves_turned standing (λ e. (ranges e).least) volts reference refers) (varied_turned standing ranges volts varied varies) exact over k live)
