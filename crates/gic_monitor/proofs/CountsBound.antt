-- The exact currents that views enclose, against the counts of a unit.
use Rattle.std.proofs.Common.{rules, ◌≡◌, ℕ, ◌+◌, ◌*◌, ◌<◌, ◌≤◌, Bool, true, false, cond, ℤ, pos, ◌*ℤ◌, ◌≤ℤ◌, unsigned_abs, List, [], ◌∷◌, map, refl, sym, ap, ◌∙◌, arith}
use Rattle.std.specs.List.{AllByRecursion, count_by}
use Rattle.std.proofs.lemmas.Grind.{common_steps}
use Rattle.std.proofs.lemmas.Bool.Decides.{nat_tests}
use Rattle.std.proofs.lemmas.List.Sums.{sum_by-cons}
use Rattle.gic_base.proofs.Each.{weaker}
use Rattle.gic_fixed.proofs.Integers.{linear, ≤ℤ-from_*ℤ}
use Rattle.gic_fixed.proofs.Enclosures.{≤ℤ-times}
use Rattle.gic_view.specs.View.{View, effective_at}
use Rattle.gic_monitor.specs.DwellText.{begins_above, ends_above, certain_count, possible_count}
use Rattle.gic_monitor.specs.Bounds.{Current, ShowsUnit, is_at_least, exact_count}
use lib.IntN.{*ℤ_comm}

-- what isn't under an end at or above the threshold is at or above the threshold
pub at_least : (lo : ℤ) (n d threshold : ℕ) → pos threshold ≤ℤ lo → (lo *ℤ pos d) ≤ℤ pos n → threshold * d ≤ n
at_least lo n d threshold least h =
    let times = ≤ℤ-times (pos threshold) lo d least in
    omega (arith, linear)

-- an end that isn't under what is at or above the threshold is at or above it
pub end_at_least : (hi : ℤ) (n d threshold : ℕ) → 0 < d → threshold * d ≤ n → pos n ≤ℤ (hi *ℤ pos d) → pos threshold ≤ℤ hi
end_at_least hi n d threshold some least h =
    let one = *ℤ_comm (pos threshold) (pos d) in
    let other = *ℤ_comm hi (pos d) in
    ≤ℤ-from_*ℤ d (pos threshold) hi some (omega (arith, linear))

-- where the absolute interval begins at or above the threshold, the current is at or above it
certain_reaches : (threshold unit : ℕ) (view : View) (current : Current) → ShowsUnit unit view current →
    begins_above threshold (effective_at view unit) ≡ true → is_at_least threshold current ≡ true
certain_reaches threshold unit view current s h =
    let least = at_least _ (unsigned_abs current.numerator) current.denominator threshold (search (rules, h)) s.encloses.above_lo in
    grind (arith, nat_tests, least)

-- where the current is at or above the threshold, the absolute interval ends at or above it
reaching_possible : (threshold unit : ℕ) (view : View) (current : Current) → ShowsUnit unit view current →
    is_at_least threshold current ≡ true → ends_above threshold (effective_at view unit) ≡ true
reaching_possible threshold unit view current s h =
    let least : threshold * current.denominator ≤ unsigned_abs current.numerator = grind (arith, nat_tests, h) in
    let end = end_at_least _ (unsigned_abs current.numerator) current.denominator threshold s.above_zero least s.encloses.below_hi in
    grind (arith, common_steps, end)

-- a count over the images
pub count_by-map : {X Y : Type 0} (p : Y → Bool) (f : X → Y) (xs : List X) → count_by p (map f xs) ≡ count_by (λ x. p (f x)) xs
count_by-map p f [] = refl
count_by-map p f (x ∷ xs) =
    sum_by-cons (λ y. cond (p y) 1 0) (f x) (map f xs)
    ∙ ap (λ n. cond (p (f x)) 1 0 + n) (count_by-map p f xs)
    ∙ sym (sum_by-cons (λ x. cond (p (f x)) 1 0) x xs)

-- one step of two counts, where the first test implies the second
one_more : (a b : Bool) (m n : ℕ) → (a ≡ true → b ≡ true) → m ≤ n → cond a 1 0 + m ≤ cond b 1 0 + n
one_more false b m n h le = omega arith
one_more true true m n h le = omega arith
one_more true false m n h le = absurd (let f : false ≡ true = h refl in cc)

-- where a test implies another, no more pass it
pub count_by-le : {X : Type 0} (p q : X → Bool) (xs : List X) → AllByRecursion (λ x. p x ≡ true → q x ≡ true) xs → count_by p xs ≤ count_by q xs
count_by-le p q [] h = omega arith
count_by-le p q (x ∷ xs) h =
    let more = one_more (p x) (q x) (count_by p xs) (count_by q xs) h.0 (count_by-le p q xs h.1) in
    let left = sum_by-cons (λ x. cond (p x) 1 0) x xs in
    let right = sum_by-cons (λ x. cond (q x) 1 0) x xs in
    omega arith

-- the certain count is at most the exact one
pub certain_at_most : (threshold unit : ℕ) (steps : List (View × Current)) → AllByRecursion (λ step. ShowsUnit unit step.0 step.1) steps →
    certain_count threshold unit (map (λ step. step.0) steps) ≤ exact_count threshold steps
certain_at_most threshold unit steps h =
    let mapped = count_by-map (λ view. begins_above threshold (effective_at view unit)) (λ (step : View × Current). step.0) steps in
    let few = count_by-le (λ (step : View × Current). begins_above threshold (effective_at step.0 unit)) (λ step. is_at_least threshold step.1) steps
    (weaker (λ step. ShowsUnit unit step.0 step.1) _ (λ step s. certain_reaches threshold unit step.0 step.1 s) steps h) in
    omega arith

-- and the exact one at most the possible one
pub exact_at_most : (threshold unit : ℕ) (steps : List (View × Current)) → AllByRecursion (λ step. ShowsUnit unit step.0 step.1) steps →
    exact_count threshold steps ≤ possible_count threshold unit (map (λ step. step.0) steps)
exact_at_most threshold unit steps h =
    let mapped = count_by-map (λ view. ends_above threshold (effective_at view unit)) (λ (step : View × Current). step.0) steps in
    let few = count_by-le (λ (step : View × Current). is_at_least threshold step.1) (λ step. ends_above threshold (effective_at step.0 unit)) steps
    (weaker (λ step. ShowsUnit unit step.0 step.1) _ (λ step s. reaching_possible threshold unit step.0 step.1 s) steps h) in
    omega arith
