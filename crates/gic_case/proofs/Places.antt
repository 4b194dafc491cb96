-- The places of names.
use Rattle.std.proofs.Common.{◌≡◌, ℕ, suc, ◌+◌, ◌<◌, List, [], ◌∷◌, ◌++◌, length, cond, Option, Some, None, IfSome, ap, arith, inl, inr}
use Rattle.std.proofs.lemmas.Bool.{cases_Bool}
use Rattle.std.specs.Option.{option_or}
use Rattle.gic_case.specs.Names.{same, place_from}

-- one more name behind the others
pub place_last : (n : ℕ) (xs : List (List ℕ)) (x q : List ℕ) → place_from n (xs ++ x ∷ []) q ≡ option_or (place_from n xs q) (cond (same q x) (Some (n + length xs)) None)
place_last n [] x q = let zeros : n ≡ n + 0 = omega arith in ap (λ m. cond (same q x) (Some m) None) zeros
place_last n (y ∷ ys) x q =
    let sums : n + 1 + length ys ≡ n + suc (length ys) = omega arith in
    elim (cases_Bool (same q y)) [
      | inl here ↦ rw here
      | inr other ↦ rw (other, place_last (n + 1) ys x q, sums)
    ]

-- the place of a name is one of its list
pub place_below : (n : ℕ) (names : List (List ℕ)) (q : List ℕ) → IfSome (place_from n names q) (λ p. p < n + length names)
place_below n [] q = tt
place_below n (x ∷ xs) q =
    elim (cases_Bool (same q x)) [
      | inl here ↦ rw here (omega arith)
      | inr other ↦ rw other (raised (place_from (n + 1) xs q) (place_below (n + 1) xs q))
    ]
  where
    raised : (o : Option ℕ) → IfSome o (λ p. p < n + 1 + length xs) → IfSome o (λ p. p < n + suc (length xs))
    raised None k = tt
    raised (Some p) k = omega arith
