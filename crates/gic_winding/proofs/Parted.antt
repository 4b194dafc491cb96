-- A list whose prefix passes a test and whose suffix does not.
use Rattle.std.proofs.Common.{◌≡◌, ℕ, ◌+◌, ◌-◌, ◌<◌, ◌≤◌, Bool, true, false, List, [], ◌∷◌, ◌++◌, length, get_or, refl, ap, sym, subst, ◌∙◌, arith, inl, inr, length-append}
use Rattle.std.proofs.Math.ListN.{get_or-append}
use Rattle.std.proofs.lemmas.Bool.{cases_lt}
use Rattle.std.proofs.lemmas.List.{get_or-append-add}
use Rattle.std.proofs.lemmas.List.Elements.{All-from_recursion}
use Rattle.std.specs.List.{AllByRecursion, filter, enumerate_from}
use Rattle.std.specs.List.Sorted.{IsPartitionedBy, IsPartitionPoint}

pub at_prefix : {X : Type 0} (p : X → Bool) (prefix suffix : List X) → AllByRecursion (λ x. p x ≡ true) prefix → (k : ℕ) (d : X) → k < length prefix → p (get_or (prefix ++ suffix) k d) ≡ true
at_prefix p prefix suffix h k d inside = rw (get_or-append prefix suffix d k inside) (All-from_recursion (λ x. p x ≡ true) prefix h k d inside)

pub at_suffix : {X : Type 0} (p : X → Bool) (prefix suffix : List X) → AllByRecursion (λ x. p x ≡ false) suffix → (k : ℕ) (d : X) → length prefix ≤ k → k < length (prefix ++ suffix) → p (get_or (prefix ++ suffix) k d) ≡ false
at_suffix p prefix suffix h k d past inside =
    let later : length prefix + (k - length prefix) ≡ k = omega arith in
    let below : k - length prefix < length suffix = omega (arith, length-append prefix suffix) in
    let at = get_or-append-add prefix suffix (k - length prefix) d in
    ap (λ n. p (get_or (prefix ++ suffix) n d)) (sym later) ∙ ap p at ∙ All-from_recursion (λ x. p x ≡ false) suffix h (k - length prefix) d below

partitioned : {X : Type 0} (p : X → Bool) (prefix suffix : List X) → AllByRecursion (λ x. p x ≡ true) prefix → AllByRecursion (λ x. p x ≡ false) suffix → IsPartitionedBy p (prefix ++ suffix)
partitioned p prefix suffix h k i j d order inside passes =
    elim (cases_lt j (length prefix)) [
      | inl before ↦ at_prefix p prefix suffix h i d (omega arith)
      | inr past ↦ absurd (cc (passes, at_suffix p prefix suffix k j d past inside))
    ]

point_is : {X : Type 0} (p : X → Bool) (prefix suffix : List X) (i : ℕ) (d : X) → AllByRecursion (λ x. p x ≡ true) prefix → AllByRecursion (λ x. p x ≡ false) suffix → i ≤ length (prefix ++ suffix)
    → IsPartitionPoint (λ x. p x ≡ true) (λ x. p x ≡ false) (prefix ++ suffix) i → i ≡ length prefix
point_is p prefix suffix i d h k inside point =
    let whole = length-append prefix suffix in
    elim (cases_lt i (length prefix)) [
      | inl early ↦ absurd (cc (at_prefix p prefix suffix h i d early, point.1 i d (omega arith) (omega arith)))
      | inr past ↦
          elim (cases_lt (length prefix) i) [
            | inl late ↦ absurd (cc (at_suffix p prefix suffix k (length prefix) d (omega arith) (omega arith), point.0 (length prefix) d (omega arith) late))
            | inr same ↦ omega arith
          ]
    ]

-- the point that a search finds is the end of the prefix
pub parted : {X : Type 0} (p : X → Bool) (xs prefix suffix : List X) (i : ℕ) (d : X) → xs ≡ prefix ++ suffix → AllByRecursion (λ x. p x ≡ true) prefix → AllByRecursion (λ x. p x ≡ false) suffix → i ≤ length xs
    → (IsPartitionedBy p xs → IsPartitionPoint (λ x. p x ≡ true) (λ x. p x ≡ false) xs i) → i ≡ length prefix
parted p xs prefix suffix i d whole h k inside point =
    let here : i ≤ length (prefix ++ suffix) = omega (arith, ap length whole) in
    let found : IsPartitionPoint (λ x. p x ≡ true) (λ x. p x ≡ false) (prefix ++ suffix) i =
    subst (λ ys. IsPartitionPoint (λ x. p x ≡ true) (λ x. p x ≡ false) ys i) whole (point (subst (λ ys. IsPartitionedBy p ys) (sym whole) (partitioned p prefix suffix h k))) in
    point_is p prefix suffix i d h k here found

-- of what a test keeps, with places: nothing of the prefix and the back, and all of the middle
none_kept : {X : Type 0} (test : X → Bool) (i : ℕ) (xs : List X) → AllByRecursion (λ x. test x ≡ false) xs → filter (λ p. test p.1) (enumerate_from i xs) ≡ []
none_kept test i [] h = refl
none_kept test i (x ∷ xs) h = rw h.0 (none_kept test (i + 1) xs h.1)

first_kept : {X : Type 0} (test : X → Bool) (i : ℕ) (xs ys : List X) → AllByRecursion (λ x. test x ≡ true) xs → AllByRecursion (λ x. test x ≡ false) ys
    → filter (λ p. test p.1) (enumerate_from i (xs ++ ys)) ≡ enumerate_from i xs
first_kept test i [] ys h k = none_kept test i ys k
first_kept test i (x ∷ xs) ys h k = rw h.0 (ap (λ l. (i, x) ∷ l) (first_kept test (i + 1) xs ys h.1 k))

pub middle_kept : {X : Type 0} (test : X → Bool) (i : ℕ) (prefix xs suffix : List X) → AllByRecursion (λ x. test x ≡ false) prefix → AllByRecursion (λ x. test x ≡ true) xs → AllByRecursion (λ x. test x ≡ false) suffix
    → filter (λ p. test p.1) (enumerate_from i (prefix ++ (xs ++ suffix))) ≡ enumerate_from (i + length prefix) xs
middle_kept test i [] xs suffix f h b = first_kept test i xs suffix h b ∙ ap (λ n. enumerate_from n xs) (omega arith)
middle_kept test i (x ∷ prefix) xs suffix f h b = rw f.0 (middle_kept test (i + 1) prefix xs suffix f.1 h b ∙ ap (λ n. enumerate_from n xs) (omega arith))
