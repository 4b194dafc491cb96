-- Potentials of varied solutions lie at most a lift above the reference, and at most one below it.
use Rattle.std.proofs.Common.{◌≡◌, ℕ, ◌*◌, ◌<◌, Bool, true, false, cond, List, [], ◌∷◌, ℤ, pos, ◌+ℤ◌, ◌-ℤ◌, ◌*ℤ◌, neg_ℤ, ◌≤ℤ◌, ◌<ℤ◌, arith, refl, ap, sym, ◌∙◌}
use lib.IntN.{*ℤ-zero}
use Rattle.std.specs.List.{AllByRecursion}
use Rattle.std.proofs.lemmas.List.Elements.{recursion_from_All}
use Rattle.gic_model.specs.declared.parts.Element.{Element}
use Rattle.gic_model.specs.Network.{ends_at}
use Rattle.gic_model.specs.Limits.{IsElementWithin}
use Rattle.gic_model.specs.Standing.{is_live, IsLive, elements_at, value_at, leaving}
use Rattle.gic_model.specs.Earthing.{AreEarthed}
use Rattle.gic_model.specs.Sums.{Placed, sum_of}
use Rattle.gic_base.proofs.Each.{weaker}
use Rattle.gic_model.specs.Solution.{Solution, IsOhm, IsKirchhoff}
use Rattle.gic_fixed.proofs.Integers.{linear, *ℤ-+ℤ, *ℤ--ℤ, *ℤ-neg_ℤ, *ℤ_assoc}
use Rattle.gic_model.proofs.Members.{kept}
use Rattle.gic_model.proofs.Ends.{ends_live, from_own, some_times}
use Rattle.gic_varied.specs.Grounds.{is_ground, HaveNoGroundVolts}
use Rattle.gic_varied.specs.Ranges.{Ranges, AreInRanges, IsInRange}
use Rattle.gic_varied.specs.Varied.{IsVaried, IsGroundWithin}
use Rattle.gic_varied.specs.Lifts.{AreLifts, IsLift, IsRaisedAtMost, IsLoweredAtMost}
use Rattle.gic_varied.proofs.Regrounded.{placed_with, SolvesWith}
use Rattle.gic_varied.proofs.Within.{own_ohm, ground_drive, value_earth}
use Rattle.gic_varied.proofs.Turned.{turned, turned_volts, solves_turned, varied_turned, quiet_turned}
use Rattle.gic_varied.proofs.Threes.{three, three--ℤ, none_of_three, value_of_three, ohm_of_three, sum_of_three}
use Rattle.gic_varied.proofs.GroundCurrents.{ground_below, lift_below}
use Rattle.gic_varied.proofs.Lowest.{IsLowest, IsDownTo, conductor_down, ground_down, ground_lowest, not_below}

-- Ohm's law at a ground with a voltage
pub ground_with_volt : (ohm : Element → ℕ) (volts : ℕ → ℤ) (s : Solution) (p : Placed) → is_ground p.1 ≡ true → IsOhm volts s (placed_with ohm p) →
    pos (ohm p.1) *ℤ s.current p.0 ≡ pos (p.1.times * 1000000) *ℤ (s.potential p.1.from.0 +ℤ pos s.denominator *ℤ volts p.0)
ground_with_volt ohm volts s p ground h =
    let resistance : cond (is_ground p.1) (ohm p.1) p.1.micro_ohm ≡ ohm p.1 = ap (λ b. cond b (ohm p.1) p.1.micro_ohm) ground in
    let at_earth = value_earth s.potential p.1.to ground in
    let inner : s.potential p.1.from.0 -ℤ value_at s.potential p.1.to +ℤ pos s.denominator *ℤ volts p.0 ≡ s.potential p.1.from.0 +ℤ pos s.denominator *ℤ volts p.0 = omega (arith, linear) in
    sym (ap (λ (r : ℕ). pos r *ℤ s.current p.0) resistance) ∙ h ∙ ap (λ z. pos (p.1.times * 1000000) *ℤ z) inner

-- without a voltage
pub no_volt : (w f t d u : ℤ) (r c : ℤ) → u ≡ pos 0 → r *ℤ c ≡ w *ℤ (f -ℤ t +ℤ d *ℤ u) → r *ℤ c ≡ w *ℤ (f -ℤ t)
no_volt w f t d u r c none ohm =
    let nothing = ap (λ z. d *ℤ z) none ∙ *ℤ-zero d in
    let inner : f -ℤ t +ℤ d *ℤ u ≡ f -ℤ t = omega (arith, linear) in
    ohm ∙ ap (λ z. w *ℤ z) inner

-- what a lift is at one element, beside a reference and a varied solution: only grounds drive it, and none takes current from a node below 0; where the varied potential is above the reference and the lift together, at a ground, so is its current
pub record LiftsAt (reference varied lift : Solution) (p : Placed) : Type 0 where
  pub undriven : is_ground p.1 ≡ false → pos p.1.micro_ohm *ℤ lift.current p.0 ≡ pos (p.1.times * 1000000) *ℤ (lift.potential p.1.from.0 -ℤ value_at lift.potential p.1.to)
  pub brings : is_ground p.1 ≡ true → lift.potential p.1.from.0 <ℤ pos 0 → lift.current p.0 <ℤ pos 0
  pub makes_up : is_ground p.1 ≡ true → pos 0 ≤ℤ lift.potential p.1.from.0 →
      three varied.denominator lift.denominator reference.denominator (reference.potential p.1.from.0) (lift.potential p.1.from.0) (varied.potential p.1.from.0) <ℤ pos 0 →
      three varied.denominator lift.denominator reference.denominator (reference.current p.0) (lift.current p.0) (varied.current p.0) <ℤ pos 0

-- with a voltage of 0
undriven_by_0 : (r w : ℤ) (c g : ℤ) (x : ℕ) → r *ℤ c ≡ w *ℤ g → r *ℤ c ≡ w *ℤ (g +ℤ pos x *ℤ pos 0)
undriven_by_0 r w c g x h =
    let none = *ℤ-zero (pos x) in
    let inner : g +ℤ pos x *ℤ pos 0 ≡ g = omega (arith, linear) in
    h ∙ sym (ap (λ z. w *ℤ z) inner)

module _ (nodes : ℕ) (standing : List Placed) (within : AllByRecursion (λ p. IsElementWithin nodes p.1) standing) (earthed : AreEarthed standing)
    (volts : ℕ → ℤ) (reference varied lift : Solution)
    (refers_ohm : AllByRecursion (λ p. is_ground p.1 ≡ false → IsOhm volts reference p) standing) (refers_kirchhoff : (k : ℕ) → IsLive standing k → IsKirchhoff standing reference k)
    (varies_ohm : AllByRecursion (λ p. is_ground p.1 ≡ false → IsOhm volts varied p) standing) (varies_kirchhoff : (k : ℕ) → IsLive standing k → IsKirchhoff standing varied k)
    (lifts_at : AllByRecursion (LiftsAt reference varied lift) standing) (lifts_kirchhoff : (k : ℕ) → IsLive standing k → IsKirchhoff standing lift k) where
  -- what is known of one element
  record Known (p : Placed) : Type 0 where
    within_limits : IsElementWithin nodes p.1
    ends : (m : ℕ) → ends_at p.1 m ≡ true → is_live standing m ≡ true
    by_reference : is_ground p.1 ≡ false → IsOhm volts reference p
    by_varied : is_ground p.1 ≡ false → IsOhm volts varied p
    by_lift : LiftsAt reference varied lift p

  known : AllByRecursion Known standing
  known = gather standing within (ends_live standing) refers_ohm varies_ohm lifts_at
    where
      gather : (ps : List Placed) → AllByRecursion (λ p. IsElementWithin nodes p.1) ps → AllByRecursion (λ p. (m : ℕ) → ends_at p.1 m ≡ true → is_live standing m ≡ true) ps →
          AllByRecursion (λ p. is_ground p.1 ≡ false → IsOhm volts reference p) ps → AllByRecursion (λ p. is_ground p.1 ≡ false → IsOhm volts varied p) ps →
          AllByRecursion (LiftsAt reference varied lift) ps → AllByRecursion Known ps
      gather [] a b c d e = tt
      gather (p ∷ ps) a b c d e = (
        record { within_limits = a.0; ends = b.0; by_reference = c.0; by_varied = d.0; by_lift = e.0 },
        gather ps a.1 b.1 c.1 d.1 e.1,
      )

  -- no lift lowers a node
  lift_down : (k : ℕ) → IsLowest standing lift.potential k → AllByRecursion (IsDownTo lift.potential lift.current k) (elements_at standing k)
  lift_down k low = kept (λ p. ends_at p.1 k) Known (IsDownTo lift.potential lift.current k) (λ p at h. one p at h (is_ground p.1) refl) standing known
    where
      one : (p : Placed) → ends_at p.1 k ≡ true → Known p → (b : Bool) → is_ground p.1 ≡ b → IsDownTo lift.potential lift.current k p
      one p at h true ground = ground_down lift.potential lift.current k p ground at (h.by_lift.brings ground (ground_lowest standing lift.potential k p.1 ground at low))
      one p at h false other =
          let limits = h.within_limits in
          let some = some_times nodes p limits in
          let least = limits.least_ohm in
          conductor_down standing lift.potential lift.current k p low (omega arith) (omega arith) limits.ends_differ at h.ends (h.by_lift.undriven other)

  pub lift_not_below : (k : ℕ) → IsLive standing k → pos 0 ≤ℤ lift.potential k
  lift_not_below = not_below nodes standing within lift.potential lift.current lifts_kirchhoff lift_down earthed

  -- the reference and the lift together, less the varied solution
  abbrev dv : ℕ
  dv = varied.denominator

  abbrev dx : ℕ
  dx = lift.denominator

  abbrev dr : ℕ
  dr = reference.denominator

  abbrev height : ℕ → ℤ
  height m = three dv dx dr (reference.potential m) (lift.potential m) (varied.potential m)

  abbrev flow : ℕ → ℤ
  flow place = three dv dx dr (reference.current place) (lift.current place) (varied.current place)

  no_flow : (k : ℕ) → IsLive standing k → sum_of (λ p. leaving k p.1 (flow p.0)) (elements_at standing k) ≡ pos 0
  no_flow k live =
      sum_of_three dv dx dr k reference.current lift.current varied.current (elements_at standing k) ∙
      none_of_three dv dx dr _ _ _ (refers_kirchhoff k live) (lifts_kirchhoff k live) (varies_kirchhoff k live)

  height_down : (k : ℕ) → IsLowest standing height k → AllByRecursion (IsDownTo height flow k) (elements_at standing k)
  height_down k low = kept (λ p. ends_at p.1 k) Known (IsDownTo height flow k) (λ p at h. one p at h (is_ground p.1) refl) standing known
    where
      one : (p : Placed) → ends_at p.1 k ≡ true → Known p → (b : Bool) → is_ground p.1 ≡ b → IsDownTo height flow k p
      one p at h true ground =
          ground_down height flow k p ground at
          (h.by_lift.makes_up ground (lift_not_below p.1.from.0 (from_own p.1 (is_live standing) h.ends)) (ground_lowest standing height k p.1 ground at low))
      one p at h false other =
          let limits = h.within_limits in
          let some = some_times nodes p limits in
          let least = limits.least_ohm in
          let w = pos (p.1.times * 1000000) in
          let from = p.1.from.0 in
          let law = ohm_of_three (pos p.1.micro_ohm) w dv dx dr (reference.current p.0) (lift.current p.0) (varied.current p.0)
          (reference.potential from -ℤ value_at reference.potential p.1.to) (lift.potential from -ℤ value_at lift.potential p.1.to) (varied.potential from -ℤ value_at varied.potential p.1.to)
          (volts p.0) (pos 0) (h.by_reference other)
          (undriven_by_0 (pos p.1.micro_ohm) w (lift.current p.0) (lift.potential from -ℤ value_at lift.potential p.1.to) dx (h.by_lift.undriven other)) refl (h.by_varied other) in
          let split = three--ℤ dv dx dr (reference.potential from) (lift.potential from) (varied.potential from) (value_at reference.potential p.1.to) (value_at lift.potential p.1.to) (value_at varied.potential p.1.to) in
          let there = value_of_three dv dx dr reference.potential lift.potential varied.potential p.1.to in
          conductor_down standing height flow k p low (omega arith) (omega arith) limits.ends_differ at h.ends
          (law ∙ ap (λ z. w *ℤ z) (split ∙ sym (ap (λ z. height from -ℤ z) there)))

  pub raised_by : (k : ℕ) → IsLive standing k → IsRaisedAtMost varied reference lift k
  raised_by k live =
      let above = not_below nodes standing within height flow no_flow height_down earthed k live in
      let split = *ℤ-+ℤ (pos dv) (pos dx *ℤ reference.potential k) (pos dr *ℤ lift.potential k) in
      let first : (pos dv *ℤ pos dx) *ℤ reference.potential k ≡ pos dv *ℤ (pos dx *ℤ reference.potential k) = *ℤ_assoc (pos dv) (pos dx) (reference.potential k) in
      let second : (pos dv *ℤ pos dr) *ℤ lift.potential k ≡ pos dv *ℤ (pos dr *ℤ lift.potential k) = *ℤ_assoc (pos dv) (pos dr) (lift.potential k) in
      omega (arith, linear)

-- the laws of a solution with these grounds, at all other elements
pub other_ohms : (standing : List Placed) (ohm : Element → ℕ) (volts : ℕ → ℤ) (s : Solution) → SolvesWith standing ohm volts s → AllByRecursion (λ p. is_ground p.1 ≡ false → IsOhm volts s p) standing
other_ohms standing ohm volts s h = weaker (λ p. IsOhm volts s (placed_with ohm p)) (λ p. is_ground p.1 ≡ false → IsOhm volts s p) (λ p law other. own_ohm ohm volts s p other law) standing h.by_ohm

module _ (nodes : ℕ) (standing : List Placed) (within : AllByRecursion (λ p. IsElementWithin nodes p.1) standing) (earthed : AreEarthed standing)
    (ranges : Ranges) (ohm : Element → ℕ) (volts lifts : ℕ → ℤ) (reference varied lift : Solution)
    (inside : AreInRanges ranges ohm standing) (quiet : HaveNoGroundVolts standing volts)
    (refers : SolvesWith standing ohm volts reference) (varies : IsVaried standing ranges volts varied)
    (are_lifts : AreLifts standing ranges ohm reference.potential reference.denominator lifts)
    (raises : SolvesWith standing (λ e. (ranges e).most) lifts lift) where
  -- by voltages of whole nanovolts
  each_lift : AllByRecursion (LiftsAt reference varied lift) standing
  each_lift = gather standing within
      (recursion_from_All (λ p. is_ground p.1 ≡ true → volts p.0 ≡ pos 0) standing quiet)
      (recursion_from_All (λ p. is_ground p.1 ≡ true → IsInRange (ranges p.1) (ohm p.1)) standing inside)
      (recursion_from_All (λ p. is_ground p.1 ≡ false → lifts p.0 ≡ pos 0) standing are_lifts.elsewhere)
      (recursion_from_All (λ p. is_ground p.1 ≡ true → IsLift (ranges p.1) (ohm p.1) (reference.potential p.1.from.0) reference.denominator (lifts p.0)) standing are_lifts.at_grounds)
      refers.by_ohm
      (recursion_from_All (λ p. is_ground p.1 ≡ true → IsGroundWithin ranges varied p) standing varies.grounds)
      raises.by_ohm
    where
      gather : (ps : List Placed) → AllByRecursion (λ p. IsElementWithin nodes p.1) ps →
          AllByRecursion (λ p. is_ground p.1 ≡ true → volts p.0 ≡ pos 0) ps → AllByRecursion (λ p. is_ground p.1 ≡ true → IsInRange (ranges p.1) (ohm p.1)) ps →
          AllByRecursion (λ p. is_ground p.1 ≡ false → lifts p.0 ≡ pos 0) ps →
          AllByRecursion (λ p. is_ground p.1 ≡ true → IsLift (ranges p.1) (ohm p.1) (reference.potential p.1.from.0) reference.denominator (lifts p.0)) ps →
          AllByRecursion (λ p. IsOhm volts reference (placed_with ohm p)) ps → AllByRecursion (λ p. is_ground p.1 ≡ true → IsGroundWithin ranges varied p) ps →
          AllByRecursion (λ p. IsOhm lifts lift (placed_with (λ e. (ranges e).most) p)) ps → AllByRecursion (LiftsAt reference varied lift) ps
      gather [] a c d e f g i j = tt
      gather (p ∷ ps) a c d e f g i j = (
        record {
          undriven = λ other. no_volt (pos (p.1.times * 1000000)) (lift.potential p.1.from.0) (value_at lift.potential p.1.to) (pos lift.denominator) (lifts p.0) (pos p.1.micro_ohm) (lift.current p.0)
              (e.0 other) (own_ohm (λ el. (ranges el).most) lifts lift p other j.0);
          brings = λ ground.
              let some = some_times nodes p a.0 in
              let range = d.0 ground in
              let positive : 0 < (ranges p.1).most = let above = range.above_0 in let least = range.at_least in let most = range.at_most in omega arith in
              lift_below (ranges p.1).most (p.1.times * 1000000) lift.denominator (lift.current p.0) (lift.potential p.1.from.0) (lifts p.0) positive (omega arith)
              (ground_with_volt (λ el. (ranges el).most) lifts lift p ground j.0) (f.0 ground).not_above_0;
          makes_up = λ ground.
              let some = some_times nodes p a.0 in
              ground_below (ranges p.1) (p.1.times * 1000000) (ohm p.1) varied.denominator lift.denominator reference.denominator (reference.current p.0) (lift.current p.0) (varied.current p.0)
              (reference.potential p.1.from.0) (lift.potential p.1.from.0) (lifts p.0) (varied.potential p.1.from.0) (omega arith) (d.0 ground)
              (ground_drive ohm volts reference p ground (c.0 ground) g.0) (ground_with_volt (λ el. (ranges el).most) lifts lift p ground j.0)
              (i.0 ground) (f.0 ground);
        },
        gather ps a.1 c.1 d.1 e.1 f.1 g.1 i.1 j.1,
      )

  pub raised : (k : ℕ) → IsLive standing k → IsRaisedAtMost varied reference lift k
  raised =
      raised_by nodes standing within earthed volts reference varied lift (other_ohms standing ohm volts reference refers) refers.kirchhoff
      (recursion_from_All (λ p. is_ground p.1 ≡ false → IsOhm volts varied p) standing varies.ohm) varies.kirchhoff each_lift raises.kirchhoff

-- over plain numbers: the same with the signs turned back
pub turned_back : (d x v : ℕ) (a b c : ℤ) → (pos (d * x) *ℤ neg_ℤ c) ≤ℤ (pos v *ℤ (pos x *ℤ neg_ℤ a +ℤ pos d *ℤ b)) →
    (pos v *ℤ (pos x *ℤ a -ℤ pos d *ℤ b)) ≤ℤ (pos (d * x) *ℤ c)
turned_back d x v a b c h =
    let left = *ℤ-neg_ℤ (pos (d * x)) c in
    let right = *ℤ-+ℤ (pos v) (pos x *ℤ neg_ℤ a) (pos d *ℤ b) in
    let inner = ap (λ z. pos v *ℤ z) (*ℤ-neg_ℤ (pos x) a) in
    let out = *ℤ-neg_ℤ (pos v) (pos x *ℤ a) in
    let back = *ℤ--ℤ (pos v) (pos x *ℤ a) (pos d *ℤ b) in
    omega (arith, linear)

pub lowered : (nodes : ℕ) (standing : List Placed) (within : AllByRecursion (λ p. IsElementWithin nodes p.1) standing) → AreEarthed standing →
    (ranges : Ranges) (ohm : Element → ℕ) (volts lifts : ℕ → ℤ) (reference varied lift : Solution) →
    AreInRanges ranges ohm standing → HaveNoGroundVolts standing volts →
    SolvesWith standing ohm volts reference → IsVaried standing ranges volts varied →
    AreLifts standing ranges ohm (λ m. neg_ℤ (reference.potential m)) reference.denominator lifts →
    SolvesWith standing (λ e. (ranges e).most) lifts lift → (k : ℕ) → IsLive standing k → IsLoweredAtMost varied reference lift k
lowered nodes standing within earthed ranges ohm volts lifts reference varied lift inside quiet refers varies are_lifts raises k live =
    turned_back reference.denominator lift.denominator varied.denominator (reference.potential k) (lift.potential k) (varied.potential k)
    (raised nodes standing within earthed ranges ohm (turned_volts volts) lifts (turned reference) (turned varied) lift inside (quiet_turned standing volts quiet)
    (solves_turned standing ohm volts reference refers) (varied_turned standing ranges volts varied varies) are_lifts raises k live)
