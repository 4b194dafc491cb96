-- Lists of one item a site.
use Rattle.std.proofs.Common.{◌≡◌, ℕ, zero, suc, ◌+◌, ◌-◌, ◌<◌, ◌≤◌, max, Bool, true, cond, List, [], ◌∷◌, map, count_by, flat_map, refl, arith, inl, inr}
use Rattle.std.proofs.lemmas.Bool.{cases_Bool, cases_lt}
use Rattle.std.proofs.lemmas.List.Sums.{sum_by-cons}
use Rattle.std.specs.List.{AllByRecursion, range_with_len, enumerate_from, list_any}

-- what holds at each of a given number of sites from a place on
abbrev pub AtEach : (ℕ → Type 0) → (from sites : ℕ) → Type 0
AtEach P from sites = (i : ℕ) → from ≤ i → i < from + sites → P i

-- the same of all but the first
others : (P : ℕ → Type 0) (from sites : ℕ) → AtEach P from (suc sites) → AtEach P (from + 1) sites
others P from sites each i low high = each i (omega arith) (omega arith)

-- holds of the items of all
pub each_site : {X : Type 0} (P : X → Type 0) (item : ℕ → X) (from sites : ℕ) → AtEach (λ i. P (item i)) from sites → AllByRecursion P (map item (range_with_len from sites))
each_site P item from zero each = tt
each_site P item from (suc sites) each = (each from (omega arith) (omega arith), each_site P item (from + 1) sites (others (λ i. P (item i)) from sites each))

-- a part of one item for each site
pub one_a_site : {X A : Type 0} (part : ℕ × X → List A) (item : ℕ → X) (made : ℕ → A) (behind from at sites : ℕ) → at ≡ from + behind
    → AtEach (λ i. part (i, item (i + behind)) ≡ made i ∷ []) from sites → flat_map part (enumerate_from from (map item (range_with_len at sites))) ≡ map made (range_with_len from sites)
one_a_site part item made behind from at zero is each = refl
one_a_site part item made behind from at (suc sites) is each =
    let first : part (from, item at) ≡ made from ∷ [] = rw is (each from (omega arith) (omega arith)) in
    let rest = one_a_site part item made behind (from + 1) (at + 1) sites (omega arith) (others (λ i. part (i, item (i + behind)) ≡ made i ∷ []) from sites each) in
    rw (first, rest) refl

-- a part without an item for each site
pub none_a_site : {X A : Type 0} (part : ℕ × X → List A) (item : ℕ → X) → ((i j : ℕ) → part (i, item j) ≡ []) → (from at sites : ℕ) → flat_map part (enumerate_from from (map item (range_with_len at sites))) ≡ []
none_a_site part item none from at zero = refl
none_a_site part item none from at (suc sites) = rw (none from at, none_a_site part item none (from + 1) (at + 1) sites) refl

-- a test on the item of a site
module _ {X : Type 0} (test : X → Bool) (item : ℕ → X) where
  -- only between two places do items pass the test
  abbrev pub PassWithin : (low high : ℕ) → ℕ → Type 0
  PassWithin low high i = test (item i) ≡ true → (low ≤ i) × (i < high)

  most_within : (low high from sites : ℕ) → AtEach (PassWithin low high) from sites → count_by test (map item (range_with_len from sites)) ≤ high - max low from
  most_within low high from zero each = omega arith
  most_within low high from (suc sites) each =
      let rest = most_within low high (from + 1) sites (others (PassWithin low high) from sites each) in
      let sum = sum_by-cons (λ x. cond (test x) 1 0) (item from) (map item (range_with_len (from + 1) sites)) in
      elim (cases_Bool (test (item from))) [
        | inl passes ↦
            let within = each from (omega arith) (omega arith) passes in
            let one : ◌≡◌ {A = ℕ} (cond (test (item from)) 1 0) 1 = rw passes refl in
            omega arith
        | inr fails ↦
            let none : ◌≡◌ {A = ℕ} (cond (test (item from)) 1 0) 0 = rw fails refl in
            omega arith
      ]

  -- so there are at most as many
  pub few_within : (low high from sites : ℕ) → AtEach (PassWithin low high) from sites → count_by test (map item (range_with_len from sites)) ≤ high - low
  few_within low high from sites each = let most = most_within low high from sites each in omega arith

  -- where a site's item passes the test, it is counted
  pub some_within : (i from sites : ℕ) → from ≤ i → i < from + sites → test (item i) ≡ true → 1 ≤ count_by test (map item (range_with_len from sites))
  some_within i from zero low high passes = absurd (omega arith)
  some_within i from (suc sites) low high passes =
      let sum = sum_by-cons (λ x. cond (test x) 1 0) (item from) (map item (range_with_len (from + 1) sites)) in
      elim (cases_lt from i) [
        | inl later ↦ let rest = some_within i (from + 1) sites (omega arith) (omega arith) passes in omega arith
        | inr here ↦
            let same : from ≡ i = omega arith in
            let one : ◌≡◌ {A = ℕ} (cond (test (item from)) 1 0) 1 = rw (same, passes) refl in
            omega arith
      ]

-- some item that a test counts is one that the list has
pub any_of_some : {X : Type 0} (test : X → Bool) (xs : List X) → 1 ≤ count_by test xs → list_any test xs ≡ true
any_of_some test [] some = absurd (omega arith)
any_of_some test (x ∷ xs) some =
    let sum = sum_by-cons (λ x. cond (test x) 1 0) x xs in
    elim (cases_Bool (test x)) [
      | inl passes ↦ rw passes refl
      | inr fails ↦
          let none : ◌≡◌ {A = ℕ} (cond (test x) 1 0) 0 = rw fails refl in
          rw (fails, any_of_some test xs (omega arith)) refl
    ]
