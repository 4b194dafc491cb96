-- Two solutions of one network have no stray power, and what that says of their weighted currents.
use Rattle.std.proofs.Common.{◌≡◌, ℕ, ◌*◌, ◌<◌, true, List, ℤ, pos, ◌+ℤ◌, ◌-ℤ◌, ◌*ℤ◌, arith, ap, sym, ◌∙◌}
use lib.IntN.{*ℤ_comm}
use Rattle.std.specs.List.{AllByRecursion}
use Rattle.std.proofs.lemmas.List.Elements.{recursion_from_All}
use Rattle.gic_model.specs.Limits.{IsElementWithin}
use Rattle.gic_model.specs.Solution.{Solution}
use Rattle.gic_model.specs.Sums.{Placed}
use Rattle.gic_fixed.proofs.Divisions.{positive_product}
use Rattle.gic_fixed.proofs.Integers.{linear, *ℤ--ℤ, *ℤ-+ℤ, *ℤ_assoc, *ℤ_left_comm}
use Rattle.gic_fixed.proofs.Sums.{sum_of-same}
use Rattle.gic_model.proofs.Ends.{some_times}
use Rattle.gic_model.proofs.Members.{kept, both}
use Rattle.gic_varied.specs.Grounds.{is_ground, grounds_among, HaveNoGroundVolts}
use Rattle.gic_varied.specs.OneNetwork.{ShareResistance, AreOfOneNetwork}
use Rattle.gic_varied.specs.Ranges.{Ranges}
use Rattle.gic_varied.specs.Reciprocal.{current_by_weights, stray_power, all_stray_power}
use Rattle.gic_varied.specs.Varied.{IsVaried}
use Rattle.gic_varied.proofs.Reciprocity.{crossed, KeepsLaws, reciprocal_both, varied_keeps}
use Rattle.gic_varied.proofs.Tellegen.{sum_of_zeros}

-- one resistance drives both currents, so each over the other's potential is the same
pub shared_nothing : (ranges : Ranges) (one other : Solution) (p : Placed) → 0 < p.1.times → ShareResistance (ranges p.1) one other p → stray_power one other p ≡ pos 0
shared_nothing ranges one other p some h =
    let w = p.1.times * 1000000 in
    let b = h.denominator in
    let first = h.in_one ∙ sym (*ℤ_assoc (pos b) (pos w) (one.potential p.1.from.0)) in
    let second = h.in_other ∙ sym (*ℤ_assoc (pos b) (pos w) (other.potential p.1.from.0)) in
    let same = crossed (b * w) (pos h.numerator) (one.current p.0) (other.current p.0) (one.potential p.1.from.0) (other.potential p.1.from.0)
    (positive_product b w h.inside.some (omega arith)) first second in
    let turned = *ℤ_comm (other.potential p.1.from.0) (one.current p.0) in
    omega (arith, linear)

module _ (nodes : ℕ) (standing : List Placed) (within : AllByRecursion (λ p. IsElementWithin nodes p.1) standing) (ranges : Ranges) (volts weights : ℕ → ℤ) (varied adjoint : Solution)
    (quiet : HaveNoGroundVolts standing volts) (light : HaveNoGroundVolts standing weights)
    (varies : IsVaried standing ranges volts varied) (adjoins : IsVaried standing ranges weights adjoint) (of_one : AreOfOneNetwork standing ranges varied adjoint) where
  none_astray : all_stray_power standing varied adjoint ≡ pos 0
  none_astray =
      let Shares : Placed → Type 0 = λ p. is_ground p.1 ≡ true → ShareResistance (ranges p.1) varied adjoint p in
      sum_of-same (stray_power varied adjoint) (λ p. pos 0) (grounds_among standing)
      (kept (λ p. is_ground p.1) (λ p. IsElementWithin nodes p.1 × Shares p) (λ p. stray_power varied adjoint p ≡ pos 0)
      (λ p ground h. let some = some_times nodes p h.0 in shared_nothing ranges varied adjoint p (omega arith) (h.1 ground)) standing
      (both (λ p. IsElementWithin nodes p.1) Shares standing within (recursion_from_All Shares standing of_one))) ∙
      sum_of_zeros (grounds_among standing)

  pub reciprocal_shared : pos adjoint.denominator *ℤ current_by_weights standing weights varied ≡ pos varied.denominator *ℤ current_by_weights standing volts adjoint
  reciprocal_shared =
      let whole = reciprocal_both nodes standing within volts weights varied adjoint quiet light (varied_keeps standing ranges volts varied varies) (varied_keeps standing ranges weights adjoint adjoins) in
      let none = none_astray in
      omega (arith, linear)

-- over plain numbers: what both are less the same sum
off_by_adjoint : (dy d dv a b same stray : ℤ) → dy *ℤ a ≡ dv *ℤ same → d *ℤ same ≡ dy *ℤ b +ℤ stray → dy *ℤ (d *ℤ a -ℤ dv *ℤ b) ≡ dv *ℤ stray
off_by_adjoint dy d dv a b same stray one other =
    let split = *ℤ--ℤ dy (d *ℤ a) (dv *ℤ b) in
    let first = *ℤ_left_comm dy d a ∙ ap (λ z. d *ℤ z) one ∙ *ℤ_left_comm d dv same ∙ ap (λ z. dv *ℤ z) other ∙ *ℤ-+ℤ dv (dy *ℤ b) stray in
    let second = *ℤ_left_comm dy dv b in
    omega (arith, linear)

-- the adjoint form, over a reference that keeps the laws
pub off_by_adjoint_power : (nodes : ℕ) (standing : List Placed) → AllByRecursion (λ p. IsElementWithin nodes p.1) standing → (ranges : Ranges) (volts weights : ℕ → ℤ) (reference varied adjoint : Solution) →
    HaveNoGroundVolts standing volts → HaveNoGroundVolts standing weights → KeepsLaws standing volts reference →
    IsVaried standing ranges volts varied → IsVaried standing ranges weights adjoint → AreOfOneNetwork standing ranges varied adjoint →
    pos adjoint.denominator *ℤ (pos reference.denominator *ℤ current_by_weights standing weights varied -ℤ pos varied.denominator *ℤ current_by_weights standing weights reference) ≡
    pos varied.denominator *ℤ all_stray_power standing adjoint reference
off_by_adjoint_power nodes standing within ranges volts weights reference varied adjoint quiet light keeps varies adjoins of_one =
    off_by_adjoint (pos adjoint.denominator) (pos reference.denominator) (pos varied.denominator) (current_by_weights standing weights varied) (current_by_weights standing weights reference)
    (current_by_weights standing volts adjoint) (all_stray_power standing adjoint reference)
    (reciprocal_shared nodes standing within ranges volts weights varied adjoint quiet light varies adjoins of_one)
    (reciprocal_both nodes standing within weights volts adjoint reference light quiet (varied_keeps standing ranges weights adjoint adjoins) keeps)
