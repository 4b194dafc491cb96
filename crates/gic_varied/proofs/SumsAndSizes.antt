-- Sizes that sums of voltages give: each element drives at most 3000 siemens times its voltage, since it has three paths at most and no resistance is below 1000 micro-ohm.
use Rattle.std.proofs.Common.{◌≡◌, ◌⊎◌, ℕ, suc, ◌*◌, ◌≤◌, Bool, true, cond, List, [], ◌∷◌, inl, inr, ℤ, pos, negsuc, neg_ℤ, ◌*ℤ◌, ◌≤ℤ◌, unsigned_abs, arith, refl, ap, subst}
use Rattle.std.specs.List.{AllByRecursion, sum_by}
use Rattle.std.proofs.lemmas.List.Elements.{All-from_recursion}
use Rattle.std.proofs.lemmas.List.Sums.{sum_by-cons}
use Rattle.std.proofs.Math.Nat.{mul-le-mul_right}
use Rattle.gic_base.proofs.Each.{weaker}
use Rattle.gic_fixed.proofs.Integers.{linear, *ℤ-neg_ℤ, abs-neg_ℤ}
use Rattle.gic_model.specs.declared.parts.Element.{Element}
use Rattle.gic_model.specs.declared.parts.Item.{Item}
use Rattle.gic_model.specs.Limits.{IsWithinLimits, IsElementWithin}
use Rattle.gic_model.specs.Network.{Network}
use Rattle.gic_model.specs.Standing.{standing_elements}
use Rattle.gic_model.specs.Sums.{Placed, sum_of}
use Rattle.gic_model.proofs.Ends.{standing_within}
use Rattle.gic_varied.specs.Grounds.{is_ground}
use Rattle.gic_varied.specs.Lifts.{with_least}
use Rattle.gic_varied.specs.Near.{AreDrivenAtMost, ConductAtMost, micro_paths}
use Rattle.gic_varied.specs.Ranges.{Ranges}
use Rattle.gic_varied.specs.Sizes.{SumsGiveSizes}
use Rattle.gic_varied.proofs.Regrounded.{placed_with, standing_with, all_unmapped}

-- over plain numbers: paths over a resistance within the limits are at most 3000 siemens
paths_most : (times ohm : ℕ) → (times ≡ 1) ⊎ (times ≡ 3) → 1000 ≤ ohm → times * 1000000 ≤ ohm * 3000
paths_most times ohm (inl one) least = omega arith
paths_most times ohm (inr three) least = omega arith

-- so many siemens times a voltage, over its resistance, whatever its sign
driven_most : (paths ohm most : ℕ) (v : ℤ) → paths ≤ ohm * most → (pos paths *ℤ v) ≤ℤ pos (ohm * (most * unsigned_abs v))
driven_most paths ohm most (pos n) h =
    let product : pos paths *ℤ pos n ≡ pos (paths * n) = refl in
    let order : paths * n ≤ ohm * most * n = mul-le-mul_right n h in
    let other : ohm * most * n ≡ ohm * (most * n) = omega arith in
    omega (arith, linear)
driven_most paths ohm most (negsuc n) h =
    let turned : pos paths *ℤ negsuc n ≡ neg_ℤ (pos (paths * suc n)) = *ℤ-neg_ℤ (pos paths) (pos (suc n)) in
    omega (arith, linear)

driven_below : (paths ohm most : ℕ) (v : ℤ) → paths ≤ ohm * most → neg_ℤ (pos paths *ℤ v) ≤ℤ pos (ohm * (most * unsigned_abs v))
driven_below paths ohm most v h =
    let bound = driven_most paths ohm most (neg_ℤ v) h in
    let turned = *ℤ-neg_ℤ (pos paths) v in
    let same = ap (λ (n : ℕ). pos (ohm * (most * n))) (abs-neg_ℤ v) in
    omega (arith, linear)

-- multiples of natural numbers add up to the multiple of their sum
sum_times : {X : Type 0} (c : ℕ) (f : X → ℕ) (xs : List X) → sum_of (λ x. pos (c * f x)) xs ≡ pos (c * sum_by f xs)
sum_times c f [] = omega (arith, linear)
sum_times c f (x ∷ xs) =
    let rest = sum_times c f xs in
    let all = ap (λ (n : ℕ). c * n) (sum_by-cons f x xs) in
    omega (arith, linear)

-- what the voltages drive
driven : (nodes : ℕ) (standing : List Placed) (volts : ℕ → ℤ) → AllByRecursion (λ p. IsElementWithin nodes p.1) standing → AreDrivenAtMost standing volts (λ place. 3000 * unsigned_abs (volts place))
driven nodes standing volts within = record {
  above = All-from_recursion (λ p. (pos (micro_paths p) *ℤ volts p.0) ≤ℤ pos (p.1.micro_ohm * (3000 * unsigned_abs (volts p.0)))) standing
      (weaker (λ p. IsElementWithin nodes p.1) (λ p. (pos (micro_paths p) *ℤ volts p.0) ≤ℤ pos (p.1.micro_ohm * (3000 * unsigned_abs (volts p.0))))
      (λ p h. driven_most (micro_paths p) p.1.micro_ohm 3000 (volts p.0) (paths_most p.1.times p.1.micro_ohm h.one_or_three h.least_ohm)) standing within);
  below = All-from_recursion (λ p. neg_ℤ (pos (micro_paths p) *ℤ volts p.0) ≤ℤ pos (p.1.micro_ohm * (3000 * unsigned_abs (volts p.0)))) standing
      (weaker (λ p. IsElementWithin nodes p.1) (λ p. neg_ℤ (pos (micro_paths p) *ℤ volts p.0) ≤ℤ pos (p.1.micro_ohm * (3000 * unsigned_abs (volts p.0))))
      (λ p h. driven_below (micro_paths p) p.1.micro_ohm 3000 (volts p.0) (paths_most p.1.times p.1.micro_ohm h.one_or_three h.least_ohm)) standing within);
}

-- what a standing ground conducts at its least resistance
conducting : (network : Network) (stands : Item → Bool) (ranges : Ranges) → IsWithinLimits (with_least ranges network) → ConductAtMost (standing_elements network stands) ranges 3000
conducting network stands ranges limits =
    All-from_recursion (λ p. is_ground p.1 ≡ true → micro_paths p ≤ (ranges p.1).least * 3000) standing
    (weaker (λ p. IsElementWithin network.nodes (placed_with least p).1) (λ p. is_ground p.1 ≡ true → micro_paths p ≤ (ranges p.1).least * 3000) one standing
    (all_unmapped (placed_with least) (λ p. IsElementWithin network.nodes p.1) standing
    (subst (λ (ps : List Placed). AllByRecursion (λ p. IsElementWithin network.nodes p.1) ps) (standing_with network stands least) (standing_within (with_least ranges network) stands limits))))
  where
    least : Element → ℕ
    least e = (ranges e).least

    standing : List Placed
    standing = standing_elements network stands

    one : (p : Placed) → IsElementWithin network.nodes (placed_with least p).1 → is_ground p.1 ≡ true → micro_paths p ≤ (ranges p.1).least * 3000
    one p h ground =
        let resistance : cond (is_ground p.1) (least p.1) p.1.micro_ohm ≡ least p.1 = ap (λ b. cond b (least p.1) p.1.micro_ohm) ground in
        paths_most p.1.times (least p.1) h.one_or_three (subst (λ (n : ℕ). 1000 ≤ n) resistance h.least_ohm)

pub sums_give_sizes : SumsGiveSizes
sums_give_sizes network stands ranges field weights limits least_limits =
    let standing = standing_elements network stands in
    let within = standing_within network stands limits in
    let field_is = sum_times 3000 (λ p. unsigned_abs (field p.0)) standing in
    let weights_is = sum_times 3000 (λ p. unsigned_abs (weights p.0)) standing in
    record {
      driven_field = λ place. 3000 * unsigned_abs (field place);
      driven_weights = λ place. 3000 * unsigned_abs (weights place);
      by_field = driven network.nodes standing field within;
      by_weights = driven network.nodes standing weights within;
      field_sum = omega (arith, linear);
      weights_sum = omega (arith, linear);
      conducting = conducting network stands ranges least_limits;
      count = omega arith;
    }
