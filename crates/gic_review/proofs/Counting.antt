-- How many nodes have a node as their first, counted one after another.
use Rattle.std.proofs.Common.{◌≡◌, ℕ, ◌+◌, ◌<◌, ◌≤◌, ◌==◌, List, length, take, get_or, set, refl, ap, sym, ◌∙◌, arith, inl, inr, length-take-le}
use Rattle.std.proofs.lemmas.Bool.{cases_eq, eq-eqb, ne_eqb}
use Rattle.std.proofs.lemmas.List.{get_or-set_same, get_or-set_other, get_or_default}
use Rattle.std.proofs.lemmas.List.Sums.{count_by_more_no, count_by_more_yes, count_by-le-length}
use Rattle.gic_review.specs.PartSizes.{times_first}

-- among n there are at most n
pub count_most : (firsts : List ℕ) (i k : ℕ) → i < length firsts → times_first (take i firsts) k ≤ i
count_most firsts i k within =
    let short : length (take i firsts) ≡ i = length-take-le i firsts (omega arith) in
    omega (arith, count_by-le-length (λ n. n == k) (take i firsts), short)

-- one more is counted
pub count_there : (counts firsts : List ℕ) (i was : ℕ) → i < length firsts → get_or firsts i 0 < length counts → was ≡ get_or counts (get_or firsts i 0) was
    → ((k : ℕ) → k < length firsts → get_or counts k 0 ≡ times_first (take i firsts) k)
    → get_or firsts i 0 < length firsts
    → (k : ℕ) → k < length firsts → get_or (set counts (get_or firsts i 0) (was + 1)) k 0 ≡ times_first (take (i + 1) firsts) k
count_there counts firsts i was within there value so_far inside k below = elim (cases_eq k (get_or firsts i 0)) [
  | inl here ↦
      let old : was ≡ times_first (take i firsts) (get_or firsts i 0) = value ∙ get_or_default counts (get_or firsts i 0) was 0 there ∙ so_far (get_or firsts i 0) inside in
      ap (λ (j : ℕ). get_or (set counts (get_or firsts i 0) (was + 1)) j 0) here ∙ get_or-set_same counts (get_or firsts i 0) (was + 1) 0 there ∙ ap (λ (n : ℕ). n + 1) old
      ∙ sym (count_by_more_yes (λ n. n == get_or firsts i 0) firsts i 0 within (eq-eqb (get_or firsts i 0) (get_or firsts i 0) refl))
      ∙ ap (λ (j : ℕ). times_first (take (i + 1) firsts) j) (sym here)
  | inr apart ↦
      get_or-set_other counts (get_or firsts i 0) k (was + 1) 0 apart ∙ so_far k below
      ∙ sym (count_by_more_no (λ n. n == k) firsts i 0 within (ne_eqb (get_or firsts i 0) k (λ e. apart (sym e))))
]
