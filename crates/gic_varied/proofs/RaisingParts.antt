-- The network of a varied solution, with each ground's fraction brought into a part of its range, carries a weighted current that is no less, where the part is one for the greatest.
use Rattle.std.proofs.Common.{◌≡◌, ℕ, ◌*◌, ◌<◌, ◌≤◌, Bool, true, List, [], ◌∷◌, ◌⊎◌, inl, inr, ℤ, pos, ◌+ℤ◌, ◌-ℤ◌, ◌*ℤ◌, neg_ℤ, ◌≤ℤ◌, arith, ap, sym, ◌∙◌}
use lib.IntN.{*ℤ_comm, *ℤ-zero}
use borrow.Author.Differences.{same_in}
use Rattle.std.specs.Prelude.{min, max}
use Rattle.std.specs.List.{AllByRecursion}
use Rattle.std.proofs.lemmas.List.Elements.{recursion_from_All}
use Rattle.std.proofs.lemmas.Bool.{cases_lt}
use Rattle.std.proofs.Math.Nat.{mul-le-mul_right, lt_of_mul-lt-mul_right}
use Rattle.gic_base.proofs.Each.{weaker}
use Rattle.gic_fixed.proofs.Divisions.{positive_product}
use Rattle.gic_fixed.proofs.Integers.{linear, up-*ℤ, down-*ℤ, *ℤ-≤ℤ, ≤ℤ-from_*ℤ, *ℤ-+ℤ, *ℤ--ℤ, *ℤ-neg_ℤ, *ℤ_left_comm, nothing_from}
use Rattle.gic_fixed.proofs.Sums.{sum_of-≤ℤ}
use Rattle.gic_model.specs.declared.parts.Item.{Item}
use Rattle.gic_model.specs.Earthing.{AreEarthed}
use Rattle.gic_model.specs.Limits.{IsWithinLimits, IsElementWithin}
use Rattle.gic_model.specs.Network.{Network}
use Rattle.gic_model.specs.Solution.{Solution}
use Rattle.gic_model.specs.Standing.{standing_elements}
use Rattle.gic_model.specs.Sums.{Placed}
use Rattle.gic_model.proofs.Ends.{standing_within}
use Rattle.gic_model.proofs.Members.{kept, both}
use Rattle.gic_varied.specs.Grounds.{is_ground, grounds_among, HaveNoGroundVolts}
use Rattle.gic_varied.specs.OneNetwork.{ground_drive_of}
use Rattle.gic_varied.specs.Parts.{NeverBelow0, NeverAbove0, IsPartOf, AreRaisingParts, AreLoweringParts, HasAtLeast, HasAtMost}
use Rattle.gic_varied.specs.Ranges.{Range, Ranges, AreInRanges, IsInRange}
use Rattle.gic_varied.specs.Reciprocal.{current_by_weights, stray_power, all_stray_power}
use Rattle.gic_varied.specs.Varied.{IsVaried, IsFractionOf, IsOhmOf}
use Rattle.gic_varied.proofs.Fractions.{SolvesBy, AreFractions, varied_by, HasFractionSolution, solved_by, fractions, inside_by, of_one_network}
use Rattle.gic_varied.proofs.GroundCurrents.{factor_order}
use Rattle.gic_varied.proofs.Reciprocity.{reciprocal_both, varied_keeps}
use Rattle.gic_varied.proofs.Resistances.{Fraction}
use Rattle.gic_varied.proofs.Shared.{reciprocal_shared}
use Rattle.gic_varied.proofs.Tellegen.{sum_of_zeros}

-- a fraction, brought into a range: over the same denominator, no less than the least and no more than the greatest
abbrev pub brought_into : Range → Fraction → Fraction
brought_into part f = record { numerator = max (part.least * f.denominator) (min f.numerator (part.most * f.denominator)); denominator = f.denominator }

-- over plain numbers, with `by` as the fraction's numerator
kept_between : (l m a : ℕ) → l ≤ m → (l ≤ max l (min a m)) × (max l (min a m) ≤ m)
kept_between l m a order = (grind arith, grind arith)

less_kept : (l m a : ℕ) → l ≤ m → m < a → max l (min a m) ≤ a
less_kept l m a order more = grind arith

more_kept : (l m a : ℕ) → a < l → a ≤ max l (min a m)
more_kept l m a less = grind arith

same_kept : (l m a : ℕ) → l ≤ a → a ≤ m → max l (min a m) ≡ a
same_kept l m a low high = grind arith

inside_part : (part : Range) (f : Fraction) → part.least ≤ part.most → 0 < f.denominator → IsFractionOf part (brought_into part f).numerator (brought_into part f).denominator
inside_part part f order some =
    let times : part.least * f.denominator ≤ part.most * f.denominator = mul-le-mul_right f.denominator order in
    let between = kept_between (part.least * f.denominator) (part.most * f.denominator) f.numerator times in
    record { some = some; at_least = between.0; at_most = between.1 }

-- what leaves a fraction as it was, makes it less or makes it more
abbrev pub Moves : Range → Fraction → (no_greatest no_least : Type 0) → Type 0
Moves part f no_greatest no_least =
    ((brought_into part f).numerator ≡ f.numerator) ⊎ ((((brought_into part f).numerator ≤ f.numerator) × no_greatest) ⊎ ((f.numerator ≤ (brought_into part f).numerator) × no_least))

moves : (range part : Range) (no_greatest no_least : Type 0) (f : Fraction) → IsFractionOf range f.numerator f.denominator → IsPartOf range part no_greatest no_least → Moves part f no_greatest no_least
moves range part no_greatest no_least f inside h =
    let times : part.least * f.denominator ≤ part.most * f.denominator = mul-le-mul_right f.denominator h.order in
    above times (cases_lt (part.most * f.denominator) f.numerator)
  where
    above : part.least * f.denominator ≤ part.most * f.denominator → (part.most * f.denominator < f.numerator) ⊎ (f.numerator ≤ part.most * f.denominator) → Moves part f no_greatest no_least
    above times (inl more) =
        let high = inside.at_most in
        inr (inl (less_kept (part.least * f.denominator) (part.most * f.denominator) f.numerator times more, h.greatest_left_out (lt_of_mul-lt-mul_right f.denominator (omega arith))))
    above times (inr few) = below (cases_lt f.numerator (part.least * f.denominator))
      where
        below : (f.numerator < part.least * f.denominator) ⊎ (part.least * f.denominator ≤ f.numerator) → Moves part f no_greatest no_least
        below (inl less) =
            let low = inside.at_least in
            inr (inr (more_kept (part.least * f.denominator) (part.most * f.denominator) f.numerator less, h.least_left_out (lt_of_mul-lt-mul_right f.denominator (omega arith))))
        below (inr enough) = inl (same_kept (part.least * f.denominator) (part.most * f.denominator) f.numerator enough few)

-- over plain numbers: the stray power of two drives over resistances a and a' of one denominator
stray_of_two : (a a' b w : ℕ) (y z p c : ℤ) → pos a *ℤ z ≡ pos b *ℤ (pos w *ℤ y) → pos a' *ℤ c ≡ pos b *ℤ (pos w *ℤ p) →
    pos (a * a') *ℤ (y *ℤ c -ℤ z *ℤ p) ≡ pos (a * (b * w)) *ℤ (y *ℤ p) -ℤ pos (a' * (b * w)) *ℤ (y *ℤ p)
stray_of_two a a' b w y z p c one other =
    let split = *ℤ--ℤ (pos (a * a')) (y *ℤ c) (z *ℤ p) in
    let first : pos (a * a') *ℤ (y *ℤ c) ≡ pos a *ℤ (y *ℤ (pos a' *ℤ c)) = same_in _ _ (simp (up-*ℤ, down-*ℤ) (omega arith)) in
    let second : pos (a * a') *ℤ (z *ℤ p) ≡ pos a' *ℤ (p *ℤ (pos a *ℤ z)) = same_in _ _ (simp (up-*ℤ, down-*ℤ) (omega arith)) in
    let first_driven = ap (λ x. pos a *ℤ (y *ℤ x)) other in
    let second_driven = ap (λ x. pos a' *ℤ (p *ℤ x)) one in
    let first_out : pos a *ℤ (y *ℤ (pos b *ℤ (pos w *ℤ p))) ≡ pos (a * (b * w)) *ℤ (y *ℤ p) = same_in _ _ (simp (up-*ℤ, down-*ℤ) (omega arith)) in
    let second_out : pos a' *ℤ (p *ℤ (pos b *ℤ (pos w *ℤ y))) ≡ pos (a' * (b * w)) *ℤ (y *ℤ p) = same_in _ _ (simp (up-*ℤ, down-*ℤ) (omega arith)) in
    omega (arith, linear)

-- it has the sign of the product where the resistance becomes less
stray_up : (a a' b w : ℕ) (y z p c : ℤ) → 0 < a * a' → a' ≤ a → pos 0 ≤ℤ (y *ℤ p) → pos a *ℤ z ≡ pos b *ℤ (pos w *ℤ y) → pos a' *ℤ c ≡ pos b *ℤ (pos w *ℤ p) → pos 0 ≤ℤ (y *ℤ c -ℤ z *ℤ p)
stray_up a a' b w y z p c some less sign one other =
    let whole = stray_of_two a a' b w y z p c one other in
    let times : a' * (b * w) ≤ a * (b * w) = mul-le-mul_right (b * w) less in
    let order = factor_order (a' * (b * w)) (a * (b * w)) (y *ℤ p) times sign in
    let none = *ℤ-zero (pos (a * a')) in
    ≤ℤ-from_*ℤ (a * a') (pos 0) (y *ℤ c -ℤ z *ℤ p) some (omega (arith, linear))

-- and the other one where it becomes more
stray_down : (a a' b w : ℕ) (y z p c : ℤ) → 0 < a * a' → a ≤ a' → pos 0 ≤ℤ (y *ℤ p) → pos a *ℤ z ≡ pos b *ℤ (pos w *ℤ y) → pos a' *ℤ c ≡ pos b *ℤ (pos w *ℤ p) → (y *ℤ c -ℤ z *ℤ p) ≤ℤ pos 0
stray_down a a' b w y z p c some more sign one other =
    let whole = stray_of_two a a' b w y z p c one other in
    let times : a * (b * w) ≤ a' * (b * w) = mul-le-mul_right (b * w) more in
    let order = factor_order (a * (b * w)) (a' * (b * w)) (y *ℤ p) times sign in
    let none = *ℤ-zero (pos (a * a')) in
    ≤ℤ-from_*ℤ (a * a') (y *ℤ c -ℤ z *ℤ p) (pos 0) some (omega (arith, linear))

stray_same : (a a' b w : ℕ) (y z p c : ℤ) → 0 < a * a' → a' ≡ a → pos a *ℤ z ≡ pos b *ℤ (pos w *ℤ y) → pos a' *ℤ c ≡ pos b *ℤ (pos w *ℤ p) → y *ℤ c -ℤ z *ℤ p ≡ pos 0
stray_same a a' b w y z p c some same one other =
    let whole = stray_of_two a a' b w y z p c one other in
    let equal : pos (a' * (b * w)) *ℤ (y *ℤ p) ≡ pos (a * (b * w)) *ℤ (y *ℤ p) = ap (λ (n : ℕ). pos (n * (b * w)) *ℤ (y *ℤ p)) same in
    nothing_from (a * a') (y *ℤ c -ℤ z *ℤ p) some (omega (arith, linear))

-- with the signs of the adjoint potential and its current turned
minus_times_left : (y p : ℤ) → neg_ℤ y *ℤ p ≡ neg_ℤ (y *ℤ p)
minus_times_left y p = *ℤ_comm (neg_ℤ y) p ∙ *ℤ-neg_ℤ p y ∙ ap neg_ℤ (*ℤ_comm p y)

turned_law : (a b w : ℕ) (y z : ℤ) → pos a *ℤ z ≡ pos b *ℤ (pos w *ℤ y) → pos a *ℤ neg_ℤ z ≡ pos b *ℤ (pos w *ℤ neg_ℤ y)
turned_law a b w y z h = *ℤ-neg_ℤ (pos a) z ∙ ap neg_ℤ h ∙ sym (ap (λ x. pos b *ℤ x) (*ℤ-neg_ℤ (pos w) y) ∙ *ℤ-neg_ℤ (pos b) (pos w *ℤ y))

stray_up_turned : (a a' b w : ℕ) (y z p c : ℤ) → 0 < a * a' → a' ≤ a → (y *ℤ p) ≤ℤ pos 0 → pos a *ℤ z ≡ pos b *ℤ (pos w *ℤ y) → pos a' *ℤ c ≡ pos b *ℤ (pos w *ℤ p) → (y *ℤ c -ℤ z *ℤ p) ≤ℤ pos 0
stray_up_turned a a' b w y z p c some less sign one other =
    let product = minus_times_left y p in
    let turned = stray_up a a' b w (neg_ℤ y) (neg_ℤ z) p c some less (omega (arith, linear)) (turned_law a b w y z one) other in
    let first = minus_times_left y c in
    let second = minus_times_left z p in
    omega (arith, linear)

stray_down_turned : (a a' b w : ℕ) (y z p c : ℤ) → 0 < a * a' → a ≤ a' → (y *ℤ p) ≤ℤ pos 0 → pos a *ℤ z ≡ pos b *ℤ (pos w *ℤ y) → pos a' *ℤ c ≡ pos b *ℤ (pos w *ℤ p) → pos 0 ≤ℤ (y *ℤ c -ℤ z *ℤ p)
stray_down_turned a a' b w y z p c some more sign one other =
    let product = minus_times_left y p in
    let turned = stray_down a a' b w (neg_ℤ y) (neg_ℤ z) p c some more (omega (arith, linear)) (turned_law a b w y z one) other in
    let first = minus_times_left y c in
    let second = minus_times_left z p in
    omega (arith, linear)

-- over plain numbers: what the same sum leaves of two, one of which has a stray power more
not_less : (dy ds dt : ℕ) (a b same stray : ℤ) → 0 < dy → pos dy *ℤ a ≡ pos ds *ℤ same → pos dy *ℤ b ≡ pos dt *ℤ same +ℤ stray → pos 0 ≤ℤ stray → (pos dt *ℤ a) ≤ℤ (pos ds *ℤ b)
not_less dy ds dt a b same stray some one other above =
    let first = *ℤ_left_comm (pos dy) (pos dt) a ∙ ap (λ z. pos dt *ℤ z) one ∙ *ℤ_left_comm (pos dt) (pos ds) same in
    let second = *ℤ_left_comm (pos dy) (pos ds) b ∙ ap (λ z. pos ds *ℤ z) other ∙ *ℤ-+ℤ (pos ds) (pos dt *ℤ same) stray in
    let more = *ℤ-≤ℤ ds (pos 0) stray above in
    let none = *ℤ-zero (pos ds) in
    ≤ℤ-from_*ℤ dy (pos dt *ℤ a) (pos ds *ℤ b) some (omega (arith, linear))

not_more : (dy ds dt : ℕ) (a b same stray : ℤ) → 0 < dy → pos dy *ℤ a ≡ pos ds *ℤ same → pos dy *ℤ b ≡ pos dt *ℤ same +ℤ stray → stray ≤ℤ pos 0 → (pos ds *ℤ b) ≤ℤ (pos dt *ℤ a)
not_more dy ds dt a b same stray some one other below =
    let first = *ℤ_left_comm (pos dy) (pos dt) a ∙ ap (λ z. pos dt *ℤ z) one ∙ *ℤ_left_comm (pos dt) (pos ds) same in
    let second = *ℤ_left_comm (pos dy) (pos ds) b ∙ ap (λ z. pos ds *ℤ z) other ∙ *ℤ-+ℤ (pos ds) (pos dt *ℤ same) stray in
    let less = *ℤ-≤ℤ ds stray (pos 0) below in
    let none = *ℤ-zero (pos ds) in
    ≤ℤ-from_*ℤ dy (pos ds *ℤ b) (pos dt *ℤ a) some (omega (arith, linear))

module _ (network : Network) (stands : Item → Bool) (ranges parts : Ranges) (volts weights : ℕ → ℤ) (varied : Solution)
    (limits : IsWithinLimits network) (earthed : AreEarthed (standing_elements network stands))
    (quiet : HaveNoGroundVolts (standing_elements network stands) volts) (light : HaveNoGroundVolts (standing_elements network stands) weights)
    (least_inside : AreInRanges ranges (λ e. (ranges e).least) (standing_elements network stands)) (varies : IsVaried (standing_elements network stands) ranges volts varied) where
  abbrev standing : List Placed
  standing = standing_elements network stands

  within : AllByRecursion (λ p. IsElementWithin network.nodes p.1) standing
  within = standing_within network stands limits

  -- the fractions of the varied solution, and brought into the parts
  abbrev f : Placed → Fraction
  f = fractions network stands ranges limits earthed least_inside varied

  abbrev g : Placed → Fraction
  g p = brought_into (parts p.1) (f p)

  inside : AreFractions standing ranges f
  inside = inside_by network stands ranges limits earthed least_inside volts varied varies

  -- parts of the ranges, whatever is asked where an end is left out
  abbrev AreParts : (no_greatest no_least : Placed → Type 0) → Type 0
  AreParts no_greatest no_least = AllByRecursion (λ p. is_ground p.1 ≡ true → IsPartOf (ranges p.1) (parts p.1) (no_greatest p) (no_least p)) standing

  in_parts : (no_greatest no_least : Placed → Type 0) → AreParts no_greatest no_least → AreFractions standing parts g
  in_parts no_greatest no_least are =
      let Part : Placed → Type 0 = λ p. is_ground p.1 ≡ true → IsPartOf (ranges p.1) (parts p.1) (no_greatest p) (no_least p) in
      let In : Placed → Type 0 = λ p. is_ground p.1 ≡ true → IsFractionOf (ranges p.1) (f p).numerator (f p).denominator in
      weaker (λ p. Part p × In p) (λ p. is_ground p.1 ≡ true → IsFractionOf (parts p.1) (g p).numerator (g p).denominator)
      (λ p h ground. inside_part (parts p.1) (f p) (h.0 ground).order (h.1 ground).some) standing (both Part In standing are inside)

  in_ranges : (no_greatest no_least : Placed → Type 0) → AreParts no_greatest no_least → AreFractions standing ranges g
  in_ranges no_greatest no_least are =
      let Part : Placed → Type 0 = λ p. is_ground p.1 ≡ true → IsPartOf (ranges p.1) (parts p.1) (no_greatest p) (no_least p) in
      let In : Placed → Type 0 = λ p. is_ground p.1 ≡ true → IsFractionOf (parts p.1) (g p).numerator (g p).denominator in
      weaker (λ p. Part p × In p) (λ p. is_ground p.1 ≡ true → IsFractionOf (ranges p.1) (g p).numerator (g p).denominator)
      (λ p h ground. wider (ranges p.1) (parts p.1) (g p) (h.0 ground).at_least (h.0 ground).at_most (h.1 ground)) standing (both Part In standing are (in_parts no_greatest no_least are))
    where
      wider : (range part : Range) (q : Fraction) → range.least ≤ part.least → part.most ≤ range.most → IsFractionOf part q.numerator q.denominator → IsFractionOf range q.numerator q.denominator
      wider range part q low high h =
          let least : range.least * q.denominator ≤ part.least * q.denominator = mul-le-mul_right q.denominator low in
          let most : part.most * q.denominator ≤ range.most * q.denominator = mul-le-mul_right q.denominator high in
          let from = h.at_least in
          let to = h.at_most in
          record { some = h.some; at_least = omega arith; at_most = omega arith }

  -- what is known of one element: Ohm's law of the adjoint over f, and of the other solution over g
  record Known (no_greatest no_least : Placed → Type 0) (adjoint other : Solution) (p : Placed) : Type 0 where
    within_limits : IsElementWithin network.nodes p.1
    least : is_ground p.1 ≡ true → IsInRange (ranges p.1) (ranges p.1).least
    part : is_ground p.1 ≡ true → IsPartOf (ranges p.1) (parts p.1) (no_greatest p) (no_least p)
    in_range : is_ground p.1 ≡ true → IsFractionOf (ranges p.1) (f p).numerator (f p).denominator
    still : is_ground p.1 ≡ true → IsFractionOf (ranges p.1) (g p).numerator (g p).denominator
    adjoint_law : is_ground p.1 ≡ true → IsOhmOf (f p).numerator (f p).denominator (ground_drive_of adjoint p) (adjoint.current p.0)
    other_law : is_ground p.1 ≡ true → IsOhmOf (g p).numerator (g p).denominator (ground_drive_of other p) (other.current p.0)

  known : (no_greatest no_least : Placed → Type 0) → AreParts no_greatest no_least → (adjoint other : Solution) → SolvesBy standing f weights adjoint → SolvesBy standing g volts other →
      AllByRecursion (Known no_greatest no_least adjoint other) standing
  known no_greatest no_least are adjoint other adjoins solves =
      gather standing within (recursion_from_All (λ p. is_ground p.1 ≡ true → IsInRange (ranges p.1) (ranges p.1).least) standing least_inside) are inside (in_ranges no_greatest no_least are) adjoins.grounds solves.grounds
    where
      gather : (ps : List Placed) → AllByRecursion (λ p. IsElementWithin network.nodes p.1) ps → AllByRecursion (λ p. is_ground p.1 ≡ true → IsInRange (ranges p.1) (ranges p.1).least) ps →
          AllByRecursion (λ p. is_ground p.1 ≡ true → IsPartOf (ranges p.1) (parts p.1) (no_greatest p) (no_least p)) ps → AreFractions ps ranges f → AreFractions ps ranges g →
          AllByRecursion (λ p. is_ground p.1 ≡ true → IsOhmOf (f p).numerator (f p).denominator (ground_drive_of adjoint p) (adjoint.current p.0)) ps →
          AllByRecursion (λ p. is_ground p.1 ≡ true → IsOhmOf (g p).numerator (g p).denominator (ground_drive_of other p) (other.current p.0)) ps →
          AllByRecursion (Known no_greatest no_least adjoint other) ps
      gather [] a b c d e h i = tt
      gather (p ∷ ps) a b c d e h i = (
        record { within_limits = a.0; least = b.0; part = c.0; in_range = d.0; still = e.0; adjoint_law = h.0; other_law = i.0 },
        gather ps a.1 b.1 c.1 d.1 e.1 h.1 i.1,
      )

  -- both fractions are above 0
  some_product : (least a b c : ℕ) → 0 < least → 0 < b → least * b ≤ a → least * b ≤ c → 0 < a * c
  some_product least a b c some some_b low high =
      let product = positive_product least b some some_b in
      positive_product a c (omega arith) (omega arith)

  -- a ground's stray power, by what moves its fraction
  module _ (no_greatest no_least : Placed → Type 0) (adjoint other : Solution) (p : Placed) (ground : is_ground p.1 ≡ true) (h : Known no_greatest no_least adjoint other p) where
    some : 0 < (f p).numerator * (g p).numerator
    some = some_product (ranges p.1).least (f p).numerator (f p).denominator (g p).numerator (h.least ground).above_0 (h.in_range ground).some (h.in_range ground).at_least (h.still ground).at_least

    abbrev y : ℤ
    y = adjoint.potential p.1.from.0

    abbrev z : ℤ
    z = adjoint.current p.0

    abbrev q : ℤ
    q = other.potential p.1.from.0

    abbrev c : ℤ
    c = other.current p.0

    abbrev w : ℕ
    w = p.1.times * 1000000

    moved : Moves (parts p.1) (f p) (no_greatest p) (no_least p)
    moved = moves (ranges p.1) (parts p.1) (no_greatest p) (no_least p) (f p) (h.in_range ground) (h.part ground)

    none : (g p).numerator ≡ (f p).numerator → y *ℤ c -ℤ z *ℤ q ≡ pos 0
    none same = stray_same (f p).numerator (g p).numerator (f p).denominator w y z q c some same (h.adjoint_law ground) (h.other_law ground)

    not_below : (no_greatest p → pos 0 ≤ℤ (y *ℤ q)) → (no_least p → (y *ℤ q) ≤ℤ pos 0) → pos 0 ≤ℤ stray_power other adjoint p
    not_below greatest least = by moved
      where
        by : Moves (parts p.1) (f p) (no_greatest p) (no_least p) → pos 0 ≤ℤ stray_power other adjoint p
        by (inl same) = let is = none same in omega (arith, linear)
        by (inr (inl (less, left_out))) = stray_up (f p).numerator (g p).numerator (f p).denominator w y z q c some less (greatest left_out) (h.adjoint_law ground) (h.other_law ground)
        by (inr (inr (more, left_out))) = stray_down_turned (f p).numerator (g p).numerator (f p).denominator w y z q c some more (least left_out) (h.adjoint_law ground) (h.other_law ground)

    not_above : (no_greatest p → (y *ℤ q) ≤ℤ pos 0) → (no_least p → pos 0 ≤ℤ (y *ℤ q)) → stray_power other adjoint p ≤ℤ pos 0
    not_above greatest least = by moved
      where
        by : Moves (parts p.1) (f p) (no_greatest p) (no_least p) → stray_power other adjoint p ≤ℤ pos 0
        by (inl same) = let is = none same in omega (arith, linear)
        by (inr (inl (less, left_out))) = stray_up_turned (f p).numerator (g p).numerator (f p).denominator w y z q c some less (greatest left_out) (h.adjoint_law ground) (h.other_law ground)
        by (inr (inr (more, left_out))) = stray_down (f p).numerator (g p).numerator (f p).denominator w y z q c some more (least left_out) (h.adjoint_law ground) (h.other_law ground)

  -- the adjoint solution of the varied network
  adjoint_found : HasFractionSolution standing f weights
  adjoint_found = solved_by network stands ranges limits earthed least_inside f weights light inside

  adjoint_varies : IsVaried standing ranges weights adjoint_found.solution
  adjoint_varies = varied_by standing ranges f weights adjoint_found.solution inside adjoint_found.solves

  -- its reciprocity with the varied solution, and with the other one
  with_varied : pos adjoint_found.solution.denominator *ℤ current_by_weights standing weights varied ≡ pos varied.denominator *ℤ current_by_weights standing volts adjoint_found.solution
  with_varied =
      reciprocal_shared network.nodes standing within ranges volts weights varied adjoint_found.solution quiet light varies adjoint_varies
      (of_one_network network stands ranges limits earthed least_inside volts weights varied adjoint_found.solution varies adjoint_found.solves)

  pub found_no_less : AreRaisingParts standing ranges parts volts weights → HasAtLeast standing parts volts weights varied
  found_no_less raising = by (solved_by network stands ranges limits earthed least_inside g volts quiet (in_ranges Below Above are))
    where
      Below : Placed → Type 0
      Below = NeverBelow0 standing ranges volts weights

      Above : Placed → Type 0
      Above = NeverAbove0 standing ranges volts weights

      are : AreParts Below Above
      are = recursion_from_All (λ p. is_ground p.1 ≡ true → IsPartOf (ranges p.1) (parts p.1) (Below p) (Above p)) standing raising

      by : HasFractionSolution standing g volts → HasAtLeast standing parts volts weights varied
      by found =
          let adjoint = adjoint_found.solution in
          let other = found.solution in
          let other_varies = varied_by standing ranges g volts other (in_ranges Below Above are) found.solves in
          let each = kept (λ p. is_ground p.1) (Known Below Above adjoint other) (λ p. pos 0 ≤ℤ stray_power other adjoint p)
          (λ p ground h. not_below Below Above adjoint other p ground h (λ below. below other adjoint other_varies adjoint_varies) (λ above. above other adjoint other_varies adjoint_varies)) standing
          (known Below Above are adjoint other adjoint_found.solves found.solves) in
          let zeros = sum_of_zeros (grounds_among standing) in
          let order = sum_of-≤ℤ (λ p. pos 0) (stray_power other adjoint) (grounds_among standing) each in
          record {
            other = other;
            varies = varied_by standing parts g volts other (in_parts Below Above are) found.solves;
            order = not_less adjoint.denominator varied.denominator other.denominator (current_by_weights standing weights varied) (current_by_weights standing weights other)
                (current_by_weights standing volts adjoint) (all_stray_power standing other adjoint) adjoint_found.solves.denominator_above_0 with_varied
                (reciprocal_both network.nodes standing within volts weights other adjoint quiet light (varied_keeps standing ranges volts other other_varies) (varied_keeps standing ranges weights adjoint adjoint_varies))
                (omega (arith, linear));
          }

  pub found_no_more : AreLoweringParts standing ranges parts volts weights → HasAtMost standing parts volts weights varied
  found_no_more lowering = by (solved_by network stands ranges limits earthed least_inside g volts quiet (in_ranges Above Below are))
    where
      Below : Placed → Type 0
      Below = NeverBelow0 standing ranges volts weights

      Above : Placed → Type 0
      Above = NeverAbove0 standing ranges volts weights

      are : AreParts Above Below
      are = recursion_from_All (λ p. is_ground p.1 ≡ true → IsPartOf (ranges p.1) (parts p.1) (Above p) (Below p)) standing lowering

      by : HasFractionSolution standing g volts → HasAtMost standing parts volts weights varied
      by found =
          let adjoint = adjoint_found.solution in
          let other = found.solution in
          let other_varies = varied_by standing ranges g volts other (in_ranges Above Below are) found.solves in
          let each = kept (λ p. is_ground p.1) (Known Above Below adjoint other) (λ p. stray_power other adjoint p ≤ℤ pos 0)
          (λ p ground h. not_above Above Below adjoint other p ground h (λ above. above other adjoint other_varies adjoint_varies) (λ below. below other adjoint other_varies adjoint_varies)) standing
          (known Above Below are adjoint other adjoint_found.solves found.solves) in
          let zeros = sum_of_zeros (grounds_among standing) in
          let order = sum_of-≤ℤ (stray_power other adjoint) (λ p. pos 0) (grounds_among standing) each in
          record {
            other = other;
            varies = varied_by standing parts g volts other (in_parts Above Below are) found.solves;
            order = not_more adjoint.denominator varied.denominator other.denominator (current_by_weights standing weights varied) (current_by_weights standing weights other)
                (current_by_weights standing volts adjoint) (all_stray_power standing other adjoint) adjoint_found.solves.denominator_above_0 with_varied
                (reciprocal_both network.nodes standing within volts weights other adjoint quiet light (varied_keeps standing ranges volts other other_varies) (varied_keeps standing ranges weights adjoint adjoint_varies))
                (omega (arith, linear));
          }
