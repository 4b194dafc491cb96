-- Sums of whole numbers over a list.
use Rattle.std.proofs.Common.{◌≡◌, ℕ, ◌*◌, ◌≤◌, List, [], ◌∷◌, ◌++◌, length, ℤ, pos, ◌+ℤ◌, ◌*ℤ◌, neg_ℤ, ◌≤ℤ◌, unsigned_abs, arith, refl, ap, sym, ◌∙◌}
use lib.IntN.{*ℤ-zero}
use Rattle.std.specs.List.{AllByRecursion, sum_by}
use Rattle.std.proofs.lemmas.List.Sums.{sum_by-cons}
use Rattle.std.proofs.lemmas.Int.{ints}
use Rattle.gic_fixed.specs.Sums.{sum_of}
use Rattle.gic_fixed.proofs.Integers.{linear, *ℤ-+ℤ}

module _ {X : Type 0} where
  -- terms that are equal at each item
  pub sum_of-same : (f g : X → ℤ) (xs : List X) → AllByRecursion (λ x. f x ≡ g x) xs → sum_of f xs ≡ sum_of g xs
  sum_of-same f g [] h = refl
  sum_of-same f g (x ∷ xs) h =
      let here = h.0 in
      let rest = sum_of-same f g xs h.1 in
      cc

  -- terms in order at each item
  pub sum_of-≤ℤ : (f g : X → ℤ) (xs : List X) → AllByRecursion (λ x. f x ≤ℤ g x) xs → sum_of f xs ≤ℤ sum_of g xs
  sum_of-≤ℤ f g [] h = omega (arith, linear)
  sum_of-≤ℤ f g (x ∷ xs) h =
      let here = h.0 in
      let rest = sum_of-≤ℤ f g xs h.1 in
      omega (arith, linear)

  -- a factor of each term
  pub sum_of-*ℤ : (c : ℤ) (f : X → ℤ) (xs : List X) → sum_of (λ x. c *ℤ f x) xs ≡ c *ℤ sum_of f xs
  sum_of-*ℤ c f [] = sym (*ℤ-zero c)
  sum_of-*ℤ c f (x ∷ xs) =
      let split = *ℤ-+ℤ c (f x) (sum_of f xs) in
      let rest = sum_of-*ℤ c f xs in
      omega (arith, linear)

  -- a sum of two terms
  pub sum_of-+ℤ : (f g : X → ℤ) (xs : List X) → sum_of (λ x. f x +ℤ g x) xs ≡ sum_of f xs +ℤ sum_of g xs
  sum_of-+ℤ f g [] = refl
  sum_of-+ℤ f g (x ∷ xs) = let rest = sum_of-+ℤ f g xs in omega (arith, linear)

  -- each term turned below 0
  pub sum_of-neg_ℤ : (f : X → ℤ) (xs : List X) → sum_of (λ x. neg_ℤ (f x)) xs ≡ neg_ℤ (sum_of f xs)
  sum_of-neg_ℤ f [] = refl
  sum_of-neg_ℤ f (x ∷ xs) = let rest = sum_of-neg_ℤ f xs in omega (arith, linear)

  -- two lists one after the other
  pub sum_of-++ : (f : X → ℤ) (xs ys : List X) → sum_of f (xs ++ ys) ≡ sum_of f xs +ℤ sum_of f ys
  sum_of-++ f [] ys = omega (arith, linear)
  sum_of-++ f (x ∷ xs) ys = let rest = sum_of-++ f xs ys in omega (arith, linear)

  -- terms that are natural numbers
  pub sum_of-pos : (f : X → ℕ) (xs : List X) → sum_of (λ x. pos (f x)) xs ≡ pos (sum_by f xs)
  sum_of-pos f [] = refl
  sum_of-pos f (x ∷ xs) = ap (λ z. pos (f x) +ℤ z) (sum_of-pos f xs) ∙ ap pos (sym (sum_by-cons f x xs))

  -- the size of a sum
  pub unsigned_abs-sum_of : (f : X → ℤ) (b : ℕ) (xs : List X) → AllByRecursion (λ x. unsigned_abs (f x) ≤ b) xs → unsigned_abs (sum_of f xs) ≤ b * length xs
  unsigned_abs-sum_of f b [] h = omega arith
  unsigned_abs-sum_of f b (x ∷ xs) h =
      let here = h.0 in
      let rest = unsigned_abs-sum_of f b xs h.1 in
      omega (arith, ints)
