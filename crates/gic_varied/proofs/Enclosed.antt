-- The enclosure of a weighted current holds it in every varied solution.
use Rattle.std.proofs.Common.{◌≡◌, ℕ, ◌*◌, ◌<◌, true, List, [], ◌∷◌, ℤ, pos, ◌+ℤ◌, ◌-ℤ◌, ◌*ℤ◌, arith, sym, subst}
use Rattle.std.specs.List.{AllByRecursion}
use Rattle.std.proofs.lemmas.List.Elements.{recursion_from_All}
use Rattle.gic_fixed.specs.Encloses.{Encloses}
use Rattle.gic_fixed.specs.Ends.{Ends}
use Rattle.gic_fixed.proofs.Integers.{linear, *ℤ--ℤ, *ℤ_assoc}
use Rattle.gic_fixed.proofs.Divisions.{positive_product}
use Rattle.gic_fixed.proofs.Enclosures.{Encloses-add, Encloses-common, Encloses-cancel}
use Rattle.gic_model.specs.declared.parts.Element.{Element}
use Rattle.gic_model.specs.Limits.{IsElementWithin}
use Rattle.gic_model.specs.Sums.{Placed, sum_of}
use Rattle.gic_model.specs.Solution.{Solution, IsOhm}
use Rattle.gic_model.proofs.Members.{kept}
use Rattle.gic_model.proofs.Ends.{some_times}
use Rattle.gic_varied.specs.Grounds.{is_ground, grounds_among, HaveNoGroundVolts}
use Rattle.gic_varied.specs.Ranges.{Ranges, IsInRange, AreInRanges}
use Rattle.gic_varied.specs.Varied.{IsGroundWithin, IsVaried}
use Rattle.gic_varied.specs.Reciprocal.{current_by_weights, stray_power, all_stray_power}
use Rattle.gic_varied.specs.Enclosure.{stray_at, enclosure_of, HoldProducts}
use Rattle.gic_varied.proofs.Regrounded.{placed_with, SolvesWith}
use Rattle.gic_varied.proofs.Within.{ground_drive}
use Rattle.gic_varied.proofs.Reciprocity.{reciprocal, reciprocal_alone, varied_keeps, off_by}
use Rattle.gic_varied.proofs.Strays.{stray_holds}
use Rattle.gic_varied.proofs.Intervals.{sum_encloses}

-- over plain numbers: a fraction that is made of two, each times a number
pub made_of_two : (k m n of_a of_b of_s : ℕ) (a b s low high lo hi : ℤ) → 0 < k → pos k *ℤ a ≡ pos m *ℤ b +ℤ pos n *ℤ s → m * of_b ≡ k * of_a → n * of_s ≡ k * of_a →
    Encloses low high b of_b → Encloses lo hi s of_s → Encloses (low +ℤ lo) (high +ℤ hi) a of_a
made_of_two k m n of_a of_b of_s a b s low high lo hi some number one_over other_over first second =
    Encloses-cancel (low +ℤ lo) (high +ℤ hi) a of_a k some
    (subst (λ (z : ℤ). Encloses (low +ℤ lo) (high +ℤ hi) z (k * of_a)) (sym number)
    (Encloses-add low high (pos m *ℤ b) lo hi (pos n *ℤ s) (k * of_a)
    (subst (λ (d : ℕ). Encloses low high (pos m *ℤ b) d) one_over (Encloses-common low high b of_b m first))
    (subst (λ (d : ℕ). Encloses lo hi (pos n *ℤ s) d) other_over (Encloses-common lo hi s of_s n second))))

-- over plain numbers
pub moved : (dy d dv : ℕ) (a b t : ℤ) → pos dy *ℤ (pos d *ℤ a -ℤ pos dv *ℤ b) ≡ t → pos (dy * d) *ℤ a ≡ pos (dy * dv) *ℤ b +ℤ t
moved dy d dv a b t off =
    let one : (pos dy *ℤ pos dv) *ℤ b ≡ pos dy *ℤ (pos dv *ℤ b) = *ℤ_assoc (pos dy) (pos dv) b in
    let other : (pos dy *ℤ pos d) *ℤ a ≡ pos dy *ℤ (pos d *ℤ a) = *ℤ_assoc (pos dy) (pos d) a in
    let inner = *ℤ--ℤ (pos dy) (pos d *ℤ a) (pos dv *ℤ b) in
    omega (arith, linear)

-- the reference's own current and the stray power give the varied one
joined : (dy d dv unit : ℕ) (a b s low high lo hi : ℤ) → 0 < dy → 0 < d → pos dy *ℤ (pos d *ℤ a -ℤ pos dv *ℤ b) ≡ pos d *ℤ s →
    Encloses low high b (unit * d) → Encloses lo hi s (unit * (dy * dv)) → Encloses (low +ℤ lo) (high +ℤ hi) a (unit * dv)
joined dy d dv unit a b s low high lo hi some_y some off =
    made_of_two (dy * d) (dy * dv) d (unit * dv) (unit * d) (unit * (dy * dv)) a b s low high lo hi (positive_product dy d some_y some) (moved dy d dv a b (pos d *ℤ s) off) (omega arith) (omega arith)

-- all stray powers of two solutions, of which the second is a network's with these grounds, where intervals hold their products at the grounds
module _ (nodes : ℕ) (standing : List Placed) (within : AllByRecursion (λ p. IsElementWithin nodes p.1) standing)
    (ranges : Ranges) (ohm : Element → ℕ) (weights : ℕ → ℤ) (varied adjoint : Solution) (over unit : ℕ) (products : Placed → Ends)
    (light : HaveNoGroundVolts standing weights) (inside : AreInRanges ranges ohm standing) (some_unit : 0 < unit)
    (grounds_vary : AllByRecursion (λ p. is_ground p.1 ≡ true → IsGroundWithin ranges varied p) standing) (adjoins : SolvesWith standing ohm weights adjoint)
    (holds : HoldProducts standing over products varied adjoint) where
  -- what is known of one element
  abbrev Held : Placed → Type 0
  Held p = Encloses (products p).low (products p).high (adjoint.potential p.1.from.0 *ℤ varied.potential p.1.from.0) (over * (adjoint.denominator * varied.denominator))

  record Known (p : Placed) : Type 0 where
    within_limits : IsElementWithin nodes p.1
    no_weight : is_ground p.1 ≡ true → weights p.0 ≡ pos 0
    in_range : is_ground p.1 ≡ true → IsInRange (ranges p.1) (ohm p.1)
    at_varied : is_ground p.1 ≡ true → IsGroundWithin ranges varied p
    by_adjoint : IsOhm weights adjoint (placed_with ohm p)
    is_held : is_ground p.1 ≡ true → Held p

  known : AllByRecursion Known standing
  known = gather standing within
      (recursion_from_All (λ p. is_ground p.1 ≡ true → weights p.0 ≡ pos 0) standing light)
      (recursion_from_All (λ p. is_ground p.1 ≡ true → IsInRange (ranges p.1) (ohm p.1)) standing inside)
      grounds_vary
      adjoins.by_ohm
      (recursion_from_All (λ p. is_ground p.1 ≡ true → Held p) standing holds)
    where
      gather : (ps : List Placed) → AllByRecursion (λ p. IsElementWithin nodes p.1) ps → AllByRecursion (λ p. is_ground p.1 ≡ true → weights p.0 ≡ pos 0) ps →
          AllByRecursion (λ p. is_ground p.1 ≡ true → IsInRange (ranges p.1) (ohm p.1)) ps → AllByRecursion (λ p. is_ground p.1 ≡ true → IsGroundWithin ranges varied p) ps →
          AllByRecursion (λ p. IsOhm weights adjoint (placed_with ohm p)) ps → AllByRecursion (λ p. is_ground p.1 ≡ true → Held p) ps → AllByRecursion Known ps
      gather [] a b c d e f = tt
      gather (p ∷ ps) a b c d e f = (
        record { within_limits = a.0; no_weight = b.0; in_range = c.0; at_varied = d.0; by_adjoint = e.0; is_held = f.0 },
        gather ps a.1 b.1 c.1 d.1 e.1 f.1,
      )

  abbrev OneHeld : Placed → Type 0
  OneHeld p =
      Encloses (stray_at ranges ohm unit products p).low (stray_at ranges ohm unit products p).high (stray_power varied adjoint p)
      (unit * (over * (adjoint.denominator * varied.denominator)))

  each_held : AllByRecursion OneHeld (grounds_among standing)
  each_held = kept (λ p. is_ground p.1) Known OneHeld (λ p ground h. one p ground h) standing known
    where
      one : (p : Placed) → is_ground p.1 ≡ true → Known p → OneHeld p
      one p ground h =
          let some = some_times nodes p h.within_limits in
          stray_holds (ranges p.1) p.1.times (ohm p.1) unit (over * (adjoint.denominator * varied.denominator)) (varied.current p.0) (varied.potential p.1.from.0)
          (adjoint.potential p.1.from.0) (adjoint.current p.0) (products p) (omega arith) some_unit (h.in_range ground)
          (ground_drive ohm weights adjoint p ground (h.no_weight ground) h.by_adjoint) (h.at_varied ground) (h.is_held ground)

  pub strays_held :
      Encloses (sum_of (λ p. (stray_at ranges ohm unit products p).low) (grounds_among standing)) (sum_of (λ p. (stray_at ranges ohm unit products p).high) (grounds_among standing))
      (all_stray_power standing varied adjoint) (unit * over * (adjoint.denominator * varied.denominator))
  strays_held =
      let grounds = grounds_among standing in
      let low = λ (p : Placed). (stray_at ranges ohm unit products p).low in
      let high = λ (p : Placed). (stray_at ranges ohm unit products p).high in
      let sum = sum_encloses low high (stray_power varied adjoint) (unit * (over * (adjoint.denominator * varied.denominator))) grounds each_held in
      let regrouped : unit * (over * (adjoint.denominator * varied.denominator)) ≡ unit * over * (adjoint.denominator * varied.denominator) = omega arith in
      subst (λ (n : ℕ). Encloses (sum_of low grounds) (sum_of high grounds) (all_stray_power standing varied adjoint) n) regrouped sum

pub enclosed : (nodes : ℕ) (standing : List Placed) → AllByRecursion (λ p. IsElementWithin nodes p.1) standing →
    (ranges : Ranges) (ohm : Element → ℕ) (volts weights : ℕ → ℤ) (reference varied adjoint : Solution) (over unit : ℕ) (products : Placed → Ends) →
    HaveNoGroundVolts standing volts → HaveNoGroundVolts standing weights → AreInRanges ranges ohm standing → 0 < unit →
    SolvesWith standing ohm volts reference → IsVaried standing ranges volts varied → SolvesWith standing ohm weights adjoint →
    HoldProducts standing over products varied adjoint →
    (own : Ends) → Encloses own.low own.high (current_by_weights standing weights reference) (unit * over * reference.denominator) →
    Encloses (enclosure_of standing ranges ohm unit products own).low (enclosure_of standing ranges ohm unit products own).high
    (current_by_weights standing weights varied) (unit * over * varied.denominator)
enclosed nodes standing within ranges ohm volts weights reference varied adjoint over unit products quiet light inside some_unit refers varies adjoins holds own own_holds =
    joined adjoint.denominator reference.denominator varied.denominator (unit * over)
    (current_by_weights standing weights varied) (current_by_weights standing weights reference) (all_stray_power standing varied adjoint)
    own.low own.high _ _ adjoins.denominator_above_0 refers.denominator_above_0
    (off_by (pos adjoint.denominator) (pos reference.denominator) (pos varied.denominator) (current_by_weights standing weights varied) (current_by_weights standing weights reference)
    (current_by_weights standing volts adjoint) (all_stray_power standing varied adjoint)
    (reciprocal nodes standing within ohm volts weights varied adjoint quiet light (varied_keeps standing ranges volts varied varies) adjoins)
    (reciprocal_alone nodes standing within ohm volts weights reference adjoint quiet light refers adjoins))
    own_holds
    (strays_held nodes standing within ranges ohm weights varied adjoint over unit products light inside some_unit
    (recursion_from_All (λ p. is_ground p.1 ≡ true → IsGroundWithin ranges varied p) standing varies.grounds) adjoins holds)
