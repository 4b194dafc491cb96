-- Counts of verdicts.
use Rattle.std.proofs.Common.{◌≡◌, ◌∙◌, ℕ, zero, suc, ◌+◌, ◌<◌, ◌≤◌, Bool, true, false, cond, List, [], ◌∷◌, ◌++◌, length, map, count_by, refl, ap, arith}
use Rattle.std.proofs.lemmas.Grind.{common_steps}
use Rattle.std.proofs.lemmas.List.FromFn.{length-map-range_with_len, map-range_with_len_more}
use Rattle.std.proofs.lemmas.List.Sums.{fold_push, sum_by-cons}
use Rattle.std.specs.List.{fold, range_with_len}
use Rattle.gic_criteria.specs.declared.criterion.Verdict.{Verdict}
use Rattle.gic_criteria.specs.declared.criterion.Verdict.TheVariants.{Below, Reaches, Undecided, Outside}
use Rattle.gic_report.specs.declared.counts.Counts.{Counts}
use Rattle.gic_report.specs.Counts.{no_counts, counted, counts_of, total_of}

-- one verdict more is one more in all
pub one_more : (counts : Counts) (v : Verdict) → total_of (counted counts v) ≡ total_of counts + 1
one_more counts Below = omega arith
one_more counts Reaches = omega arith
one_more counts Undecided = omega arith
one_more counts Outside = omega arith

total_from : (counts : Counts) (vs : List Verdict) → total_of (fold counted counts vs) ≡ total_of counts + length vs
total_from counts [] = omega arith
total_from counts (v ∷ vs) = omega (arith, total_from (counted counts v) vs, one_more counts v)

-- each verdict is counted once
pub total_counted : (vs : List Verdict) → total_of (counts_of vs) ≡ length vs
total_counted vs = omega (arith, total_from no_counts vs)

-- a list with one verdict more
pub counts_push : (vs : List Verdict) (v : Verdict) → counts_of (vs ++ v ∷ []) ≡ counted (counts_of vs) v
counts_push vs v = fold_push counted no_counts vs v

-- the verdicts at the first n places, and one place more
pub total_at : (said : ℕ → Verdict) (n : ℕ) → total_of (counts_of (map said (range_with_len 0 n))) ≡ n
total_at said n = total_counted (map said (range_with_len 0 n)) ∙ length-map-range_with_len said 0 n

pub counts_next : (said : ℕ → Verdict) (n : ℕ) → counts_of (map said (range_with_len 0 (n + 1))) ≡ counted (counts_of (map said (range_with_len 0 n))) (said n)
counts_next said n = ap counts_of (map-range_with_len_more said 0 n n (omega arith)) ∙ counts_push (map said (range_with_len 0 n)) (said n)

-- ---- verdicts that pass a test

-- tests of verdicts
abbrev pub is_below : Verdict → Bool
is_below Below = true
is_below Reaches = false
is_below Undecided = false
is_below Outside = false

abbrev pub is_reaching : Verdict → Bool
is_reaching Below = false
is_reaching Reaches = true
is_reaching Undecided = false
is_reaching Outside = false

abbrev pub is_undecided : Verdict → Bool
is_undecided Below = false
is_undecided Reaches = false
is_undecided Undecided = true
is_undecided Outside = false

abbrev pub is_outside : Verdict → Bool
is_outside Below = false
is_outside Reaches = false
is_outside Undecided = false
is_outside Outside = true

pub is_below_so : (v : Verdict) → is_below v ≡ true → v ≡ Below
is_below_so v h = grind (arith, common_steps, h)

pub is_reaching_so : (v : Verdict) → is_reaching v ≡ true → v ≡ Reaches
is_reaching_so v h = grind (arith, common_steps, h)

pub is_undecided_so : (v : Verdict) → is_undecided v ≡ true → v ≡ Undecided
is_undecided_so v h = grind (arith, common_steps, h)

-- how each count goes up
pub below_step : (counts : Counts) (v : Verdict) → (counted counts v).below ≡ counts.below + cond (is_below v) 1 0
below_step counts Below = omega arith
below_step counts Reaches = omega arith
below_step counts Undecided = omega arith
below_step counts Outside = omega arith

pub reaches_step : (counts : Counts) (v : Verdict) → (counted counts v).reaches ≡ counts.reaches + cond (is_reaching v) 1 0
reaches_step counts Below = omega arith
reaches_step counts Reaches = omega arith
reaches_step counts Undecided = omega arith
reaches_step counts Outside = omega arith

pub undecided_step : (counts : Counts) (v : Verdict) → (counted counts v).undecided ≡ counts.undecided + cond (is_undecided v) 1 0
undecided_step counts Below = omega arith
undecided_step counts Reaches = omega arith
undecided_step counts Undecided = omega arith
undecided_step counts Outside = omega arith

pub outside_step : (counts : Counts) (v : Verdict) → (counted counts v).outside ≡ counts.outside + cond (is_outside v) 1 0
outside_step counts Below = omega arith
outside_step counts Reaches = omega arith
outside_step counts Undecided = omega arith
outside_step counts Outside = omega arith

-- a count that goes up at the verdicts that pass a test is the number of these
count_from : (part : Counts → ℕ) (test : Verdict → Bool) → ((counts : Counts) (v : Verdict) → part (counted counts v) ≡ part counts + cond (test v) 1 0)
    → (counts : Counts) (vs : List Verdict) → part (fold counted counts vs) ≡ part counts + count_by test vs
count_from part test step counts [] = omega arith
count_from part test step counts (v ∷ vs) =
    omega (arith, count_from part test step (counted counts v) vs, step counts v, sum_by-cons (λ x. cond (test x) 1 0) v vs)

-- tests of places, counted
pub count_le : (p q : ℕ → Bool) (from count : ℕ) → ((t : ℕ) → t < from + count → p t ≡ true → q t ≡ true)
    → count_by p (range_with_len from count) ≤ count_by q (range_with_len from count)
count_le p q from zero so = omega arith
count_le p q from (suc count) so =
    omega (
      arith,
      count_le p q (from + 1) count (λ t below. so t (omega (arith, below))),
      sum_by-cons (λ x. cond (p x) 1 0) from (range_with_len (from + 1) count),
      sum_by-cons (λ x. cond (q x) 1 0) from (range_with_len (from + 1) count),
      one_le (p from) (q from) (so from (omega arith)),
    )
  where
    one_le : (a b : Bool) → (a ≡ true → b ≡ true) → cond a 1 0 ≤ cond b 1 0
    one_le a b h = grind (arith, h)

count_map : {A : Type 0} (test : A → Bool) (f : ℕ → A) (xs : List ℕ) → count_by test (map f xs) ≡ count_by (λ t. test (f t)) xs
count_map test f [] = refl
count_map test f (x ∷ xs) =
    omega (arith, count_map test f xs, sum_by-cons (λ y. cond (test y) 1 0) (f x) (map f xs), sum_by-cons (λ t. cond (test (f t)) 1 0) x xs)

-- and so of the verdicts at places
pub counted_at : (part : Counts → ℕ) (test : Verdict → Bool) → ((counts : Counts) (v : Verdict) → part (counted counts v) ≡ part counts + cond (test v) 1 0)
    → part no_counts ≡ 0 → (said : ℕ → Verdict) (n : ℕ) → part (counts_of (map said (range_with_len 0 n))) ≡ count_by (λ t. test (said t)) (range_with_len 0 n)
counted_at part test step none said n =
    omega (arith, count_from part test step no_counts (map said (range_with_len 0 n)), none, count_map test said (range_with_len 0 n))
