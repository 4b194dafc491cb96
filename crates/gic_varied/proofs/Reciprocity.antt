-- Reciprocity: Tellegen's theorem twice, the currents of each solution over the potentials of the other.
use Rattle.std.proofs.Common.{◌≡◌, ℕ, ◌*◌, ◌<◌, Bool, true, false, List, ℤ, pos, ◌+ℤ◌, ◌-ℤ◌, ◌*ℤ◌, arith, refl, ap, sym, ◌∙◌}
use lib.IntN.{*ℤ_comm, *ℤ-zero}
use Rattle.std.specs.List.{AllByRecursion}
use Rattle.std.proofs.lemmas.List.Elements.{recursion_from_All}
use Rattle.gic_base.proofs.Each.{weaker}
use Rattle.gic_model.specs.declared.parts.Element.{Element}
use Rattle.gic_model.specs.Limits.{IsElementWithin}
use Rattle.gic_model.specs.Standing.{IsLive, elements_at, leaving}
use Rattle.gic_model.specs.Sums.{Placed, sum_of}
use Rattle.gic_model.specs.Solution.{Solution, IsOhm}
use Rattle.gic_fixed.proofs.Integers.{linear, nothing_from, *ℤ-+ℤ, *ℤ--ℤ, *ℤ_left_comm}
use Rattle.gic_fixed.proofs.Sums.{sum_of-same, sum_of-*ℤ, sum_of-+ℤ}
use Rattle.gic_model.proofs.Members.{both}
use Rattle.gic_model.proofs.Ends.{some_times}
use Rattle.gic_varied.specs.Grounds.{is_ground, HaveNoGroundVolts}
use Rattle.gic_varied.specs.Ranges.{Ranges}
use Rattle.gic_varied.specs.Varied.{IsVaried}
use Rattle.gic_varied.specs.Reciprocal.{current_by_weights, stray_power, all_stray_power}
use Rattle.gic_varied.proofs.Regrounded.{placed_with, SolvesWith}
use Rattle.gic_varied.proofs.Within.{value_earth, own_ohm, ground_drive}
use Rattle.gic_varied.proofs.Tellegen.{if_kept, sum_of-filter, sum_of_zeros, along, carries_nothing}

-- a factor above 0 is taken off
pub cancel : (w : ℕ) (a b : ℤ) → 0 < w → pos w *ℤ a ≡ pos w *ℤ b → a ≡ b
cancel w a b some same =
    let split = *ℤ--ℤ (pos w) a b in
    let none = nothing_from w (a -ℤ b) some (omega (arith, linear)) in
    omega (arith, linear)

-- over plain numbers: by Ohm's law of both, each current over what drives the other is the same
pub crossed : (w : ℕ) (r c z a b : ℤ) → 0 < w → r *ℤ c ≡ pos w *ℤ a → r *ℤ z ≡ pos w *ℤ b → c *ℤ b ≡ z *ℤ a
crossed w r c z a b some one other =
    cancel w (c *ℤ b) (z *ℤ a) some
    (*ℤ_left_comm (pos w) c b ∙ ap (λ x. c *ℤ x) (sym other) ∙ *ℤ_left_comm c r z ∙ ap (λ x. r *ℤ x) (*ℤ_comm c z) ∙ *ℤ_left_comm r z c ∙ ap (λ x. z *ℤ x) one ∙ *ℤ_left_comm z (pos w) a)

-- with the two drives spelled out
other_element : (w : ℕ) (r c z y p dy d u v : ℤ) → 0 < w → r *ℤ c ≡ pos w *ℤ (p +ℤ d *ℤ v) → r *ℤ z ≡ pos w *ℤ (y +ℤ dy *ℤ u) →
    dy *ℤ (u *ℤ c) +ℤ c *ℤ y ≡ (d *ℤ (v *ℤ z) +ℤ z *ℤ p) +ℤ pos 0
other_element w r c z y p dy d u v some one other =
    let same = crossed w r c z (p +ℤ d *ℤ v) (y +ℤ dy *ℤ u) some one other in
    let left = *ℤ-+ℤ c y (dy *ℤ u) in
    let right = *ℤ-+ℤ z p (d *ℤ v) in
    let first : c *ℤ (dy *ℤ u) ≡ dy *ℤ (u *ℤ c) = *ℤ_left_comm c dy u ∙ ap (λ x. dy *ℤ x) (*ℤ_comm c u) in
    let second : z *ℤ (d *ℤ v) ≡ d *ℤ (v *ℤ z) = *ℤ_left_comm z d v ∙ ap (λ x. d *ℤ x) (*ℤ_comm z v) in
    omega (arith, linear)

-- a ground, which has no voltage in either
ground_element : (c z y p dy d u v : ℤ) → u ≡ pos 0 → v ≡ pos 0 →
    dy *ℤ (u *ℤ c) +ℤ c *ℤ y ≡ (d *ℤ (v *ℤ z) +ℤ z *ℤ p) +ℤ (y *ℤ c -ℤ z *ℤ p)
ground_element c z y p dy d u v no_u no_v =
    let none_u : u *ℤ c ≡ pos 0 = ap (λ x. x *ℤ c) no_u ∙ *ℤ_comm (pos 0) c ∙ *ℤ-zero c in
    let none_v : v *ℤ z ≡ pos 0 = ap (λ x. x *ℤ z) no_v ∙ *ℤ_comm (pos 0) z ∙ *ℤ-zero z in
    let first = ap (λ x. dy *ℤ x) none_u ∙ *ℤ-zero dy in
    let second = ap (λ x. d *ℤ x) none_v ∙ *ℤ-zero d in
    let turned = *ℤ_comm c y in
    omega (arith, linear)

-- Ohm's law at all elements but the grounds, and Kirchhoff's
pub record KeepsLaws (standing : List Placed) (volts : ℕ → ℤ) (s : Solution) : Type 0 where
  pub ohm : AllByRecursion (λ p. is_ground p.1 ≡ false → IsOhm volts s p) standing
  pub kirchhoff : (k : ℕ) → IsLive standing k → sum_of (λ p. leaving k p.1 (s.current p.0)) (elements_at standing k) ≡ pos 0

pub varied_keeps : (standing : List Placed) (ranges : Ranges) (volts : ℕ → ℤ) (s : Solution) → IsVaried standing ranges volts s → KeepsLaws standing volts s
varied_keeps standing ranges volts s h = record {
  ohm = recursion_from_All (λ p. is_ground p.1 ≡ false → IsOhm volts s p) standing h.ohm;
  kirchhoff = h.kirchhoff;
}

pub solution_keeps : (standing : List Placed) (ohm : Element → ℕ) (volts : ℕ → ℤ) (s : Solution) → SolvesWith standing ohm volts s → KeepsLaws standing volts s
solution_keeps standing ohm volts s h = record {
  ohm = weaker (λ p. IsOhm volts s (placed_with ohm p)) (λ p. is_ground p.1 ≡ false → IsOhm volts s p) (λ p by_law other. own_ohm ohm volts s p other by_law) standing h.by_ohm;
  kirchhoff = h.kirchhoff;
}

module _ (nodes : ℕ) (standing : List Placed) (within : AllByRecursion (λ p. IsElementWithin nodes p.1) standing)
    (volts weights : ℕ → ℤ) (varied adjoint : Solution)
    (quiet : HaveNoGroundVolts standing volts) (light : HaveNoGroundVolts standing weights)
    (keeps : KeepsLaws standing volts varied) (keeps_too : KeepsLaws standing weights adjoint) where
  abbrev dy : ℤ
  dy = pos adjoint.denominator

  abbrev d : ℤ
  d = pos varied.denominator

  -- one element
  one_element : (p : Placed) → IsElementWithin nodes p.1 →
      (is_ground p.1 ≡ true → volts p.0 ≡ pos 0) → (is_ground p.1 ≡ true → weights p.0 ≡ pos 0) →
      (is_ground p.1 ≡ false → IsOhm volts varied p) → (is_ground p.1 ≡ false → IsOhm weights adjoint p) →
      dy *ℤ (weights p.0 *ℤ varied.current p.0) +ℤ varied.current p.0 *ℤ along adjoint.potential p.1 ≡
      (d *ℤ (volts p.0 *ℤ adjoint.current p.0) +ℤ adjoint.current p.0 *ℤ along varied.potential p.1) +ℤ if_kept (is_ground p.1) (stray_power varied adjoint p)
  one_element p h no_volts no_weight by_ohm by_adjoint = by (is_ground p.1) refl
    where
      by : (b : Bool) → is_ground p.1 ≡ b →
          dy *ℤ (weights p.0 *ℤ varied.current p.0) +ℤ varied.current p.0 *ℤ along adjoint.potential p.1 ≡
          (d *ℤ (volts p.0 *ℤ adjoint.current p.0) +ℤ adjoint.current p.0 *ℤ along varied.potential p.1) +ℤ if_kept b (stray_power varied adjoint p)
      by true is =
          let y_falls : along adjoint.potential p.1 ≡ adjoint.potential p.1.from.0 = let at = value_earth adjoint.potential p.1.to is in omega (arith, linear) in
          let p_falls : along varied.potential p.1 ≡ varied.potential p.1.from.0 = let at = value_earth varied.potential p.1.to is in omega (arith, linear) in
          let plain = ground_element (varied.current p.0) (adjoint.current p.0) (adjoint.potential p.1.from.0) (varied.potential p.1.from.0) dy d (weights p.0) (volts p.0) (no_weight is) (no_volts is) in
          let left = ap (λ z. varied.current p.0 *ℤ z) y_falls in
          let right = ap (λ z. adjoint.current p.0 *ℤ z) p_falls in
          omega (arith, linear)
      by false is =
          let some = some_times nodes p h in
          other_element (p.1.times * 1000000) (pos p.1.micro_ohm) (varied.current p.0) (adjoint.current p.0) (along adjoint.potential p.1) (along varied.potential p.1) dy d (weights p.0) (volts p.0)
          (omega arith) (by_ohm is) (by_adjoint is)

  pub reciprocal_both : dy *ℤ current_by_weights standing weights varied ≡ d *ℤ current_by_weights standing volts adjoint +ℤ all_stray_power standing varied adjoint
  reciprocal_both =
      let Quiet : Placed → Type 0 = λ p. is_ground p.1 ≡ true → volts p.0 ≡ pos 0 in
      let Light : Placed → Type 0 = λ p. is_ground p.1 ≡ true → weights p.0 ≡ pos 0 in
      let Ohm : Placed → Type 0 = λ p. is_ground p.1 ≡ false → IsOhm volts varied p in
      let Adjoint : Placed → Type 0 = λ p. is_ground p.1 ≡ false → IsOhm weights adjoint p in
      let Within : Placed → Type 0 = λ p. IsElementWithin nodes p.1 in
      let facts = both (λ p. (Within p × Quiet p) × Light p) (λ p. Ohm p × Adjoint p) standing
      (both (λ p. Within p × Quiet p) Light standing (both Within Quiet standing within (recursion_from_All Quiet standing quiet)) (recursion_from_All Light standing light))
      (both Ohm Adjoint standing keeps.ohm keeps_too.ohm) in
      let in_u : Placed → ℤ = λ p. weights p.0 *ℤ varied.current p.0 in
      let in_v : Placed → ℤ = λ p. volts p.0 *ℤ adjoint.current p.0 in
      let over_y : Placed → ℤ = λ p. varied.current p.0 *ℤ along adjoint.potential p.1 in
      let over_p : Placed → ℤ = λ p. adjoint.current p.0 *ℤ along varied.potential p.1 in
      let stray : Placed → ℤ = λ p. if_kept (is_ground p.1) (stray_power varied adjoint p) in
      let each = weaker (λ p. ((Within p × Quiet p) × Light p) × (Ohm p × Adjoint p)) (λ p. dy *ℤ in_u p +ℤ over_y p ≡ (d *ℤ in_v p +ℤ over_p p) +ℤ stray p)
      (λ p h. one_element p h.0.0.0 h.0.0.1 h.0.1 h.1.0 h.1.1) standing facts in
      let same = sum_of-same (λ p. dy *ℤ in_u p +ℤ over_y p) (λ p. (d *ℤ in_v p +ℤ over_p p) +ℤ stray p) standing each in
      let left = sum_of-+ℤ (λ p. dy *ℤ in_u p) over_y standing in
      let left_out = sum_of-*ℤ dy in_u standing in
      let right = sum_of-+ℤ (λ p. d *ℤ in_v p +ℤ over_p p) stray standing in
      let right_split = sum_of-+ℤ (λ p. d *ℤ in_v p) over_p standing in
      let right_out = sum_of-*ℤ d in_v standing in
      let no_y = carries_nothing nodes standing within varied.current keeps.kirchhoff adjoint.potential in
      let no_p = carries_nothing nodes standing within adjoint.current keeps_too.kirchhoff varied.potential in
      let gathered = sum_of-filter (stray_power varied adjoint) (λ p. is_ground p.1) standing in
      omega (arith, linear)

-- with a solution of a network that is named by its grounds
pub reciprocal : (nodes : ℕ) (standing : List Placed) → AllByRecursion (λ p. IsElementWithin nodes p.1) standing → (ohm : Element → ℕ) (volts weights : ℕ → ℤ) (varied adjoint : Solution) →
    HaveNoGroundVolts standing volts → HaveNoGroundVolts standing weights → KeepsLaws standing volts varied → SolvesWith standing ohm weights adjoint →
    pos adjoint.denominator *ℤ current_by_weights standing weights varied ≡ pos varied.denominator *ℤ current_by_weights standing volts adjoint +ℤ all_stray_power standing varied adjoint
reciprocal nodes standing within ohm volts weights varied adjoint quiet light keeps solves =
    reciprocal_both nodes standing within volts weights varied adjoint quiet light keeps (solution_keeps standing ohm weights adjoint solves)

module _ (nodes : ℕ) (standing : List Placed) (within : AllByRecursion (λ p. IsElementWithin nodes p.1) standing)
    (ohm : Element → ℕ) (volts weights : ℕ → ℤ) (reference adjoint : Solution)
    (quiet : HaveNoGroundVolts standing volts) (light : HaveNoGroundVolts standing weights)
    (refers : SolvesWith standing ohm volts reference) (solves : SolvesWith standing ohm weights adjoint) where
  -- the ground of the adjoint network drives all of the reference's current
  no_stray : (p : Placed) → IsElementWithin nodes p.1 → (is_ground p.1 ≡ true → volts p.0 ≡ pos 0) → (is_ground p.1 ≡ true → weights p.0 ≡ pos 0) →
      IsOhm volts reference (placed_with ohm p) → IsOhm weights adjoint (placed_with ohm p) → if_kept (is_ground p.1) (stray_power reference adjoint p) ≡ pos 0
  no_stray p h no_volts no_weight one other = by (is_ground p.1) refl
    where
      by : (b : Bool) → is_ground p.1 ≡ b → if_kept b (stray_power reference adjoint p) ≡ pos 0
      by true is =
          let some = some_times nodes p h in
          let same = crossed (p.1.times * 1000000) (pos (ohm p.1)) (reference.current p.0) (adjoint.current p.0) (reference.potential p.1.from.0) (adjoint.potential p.1.from.0) (omega arith)
          (ground_drive ohm volts reference p is (no_volts is) one) (ground_drive ohm weights adjoint p is (no_weight is) other) in
          let turned = *ℤ_comm (adjoint.potential p.1.from.0) (reference.current p.0) in
          omega (arith, linear)
      by false is = refl

  none_astray : all_stray_power standing reference adjoint ≡ pos 0
  none_astray =
      let Quiet : Placed → Type 0 = λ p. is_ground p.1 ≡ true → volts p.0 ≡ pos 0 in
      let Light : Placed → Type 0 = λ p. is_ground p.1 ≡ true → weights p.0 ≡ pos 0 in
      let One : Placed → Type 0 = λ p. IsOhm volts reference (placed_with ohm p) in
      let Other : Placed → Type 0 = λ p. IsOhm weights adjoint (placed_with ohm p) in
      let Within : Placed → Type 0 = λ p. IsElementWithin nodes p.1 in
      let facts = both (λ p. (Within p × Quiet p) × Light p) (λ p. One p × Other p) standing
      (both (λ p. Within p × Quiet p) Light standing (both Within Quiet standing within (recursion_from_All Quiet standing quiet)) (recursion_from_All Light standing light))
      (both One Other standing refers.by_ohm solves.by_ohm) in
      sum_of-filter (stray_power reference adjoint) (λ p. is_ground p.1) standing ∙
      sum_of-same (λ p. if_kept (is_ground p.1) (stray_power reference adjoint p)) (λ p. pos 0) standing
      (weaker (λ p. ((Within p × Quiet p) × Light p) × (One p × Other p)) (λ p. if_kept (is_ground p.1) (stray_power reference adjoint p) ≡ pos 0)
      (λ p h. no_stray p h.0.0.0 h.0.0.1 h.0.1 h.1.0 h.1.1) standing facts) ∙
      sum_of_zeros standing

  pub reciprocal_alone : pos adjoint.denominator *ℤ current_by_weights standing weights reference ≡ pos reference.denominator *ℤ current_by_weights standing volts adjoint
  reciprocal_alone =
      let whole = reciprocal nodes standing within ohm volts weights reference adjoint quiet light (solution_keeps standing ohm volts reference refers) solves in
      let none = none_astray in
      omega (arith, linear)

-- over plain numbers: what both are less the same sum
pub off_by : (dy d dv a b same stray : ℤ) → dy *ℤ a ≡ dv *ℤ same +ℤ stray → dy *ℤ b ≡ d *ℤ same → dy *ℤ (d *ℤ a -ℤ dv *ℤ b) ≡ d *ℤ stray
off_by dy d dv a b same stray one other =
    let split = *ℤ--ℤ dy (d *ℤ a) (dv *ℤ b) in
    let first = *ℤ_left_comm dy d a ∙ ap (λ z. d *ℤ z) one ∙ *ℤ-+ℤ d (dv *ℤ same) stray in
    let second = *ℤ_left_comm dy dv b ∙ ap (λ z. dv *ℤ z) other ∙ *ℤ_left_comm dv d same in
    omega (arith, linear)
