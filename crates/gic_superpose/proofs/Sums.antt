-- Sums below a number.
use Rattle.std.proofs.Common.{◌≡◌, ℕ, zero, suc, ◌+◌, ◌*◌, ◌<◌, ℤ, pos, ◌+ℤ◌, ◌-ℤ◌, ◌≤ℤ◌, arith, ◌≢◌, ◌≤◌, List, unsigned_abs, refl, ap, sym, ◌∙◌, ⊎_elim}
use Rattle.std.proofs.lemmas.Int.{ints}
use Rattle.gic_superpose.specs.Sums.{sum_below}
use Rattle.std.proofs.lemmas.Bool.{cases_eq}
use Rattle.gic_fixed.proofs.Integers.{linear}

pub sum_below-nothing : (f : ℕ → ℤ) (n : ℕ) → ((i : ℕ) → f i ≡ pos 0) → sum_below f n ≡ pos 0
sum_below-nothing f zero h = refl
sum_below-nothing f (suc n) h = omega (arith, linear, sum_below-nothing f n h, h n)

pub sum_below-same : (f g : ℕ → ℤ) (n : ℕ) → ((i : ℕ) → f i ≡ g i) → sum_below f n ≡ sum_below g n
sum_below-same f g zero h = refl
sum_below-same f g (suc n) h = omega (arith, linear, sum_below-same f g n h, h n)

-- where one term alone is not 0
before : (f : ℕ → ℤ) (n j : ℕ) → n ≤ j → ((i : ℕ) → i ≢ j → f i ≡ pos 0) → sum_below f n ≡ pos 0
before f zero j h other = refl
before f (suc n) j h other = omega (arith, linear, before f n j (omega (arith, h)) other, other n (λ e. omega (arith, e, h)))

pub sum_below-one : (f : ℕ → ℤ) (n j : ℕ) → j < n → ((i : ℕ) → i ≢ j → f i ≡ pos 0) → sum_below f n ≡ f j
sum_below-one f zero j h other = absurd (omega (arith, h))
sum_below-one f (suc n) j h other =
    ⊎_elim
    (λ e. let none = before f n j (omega (arith, e)) other in let same = ap f e in omega (arith, linear))
    (λ d. let rest = sum_below-one f n j (omega (arith, h, d)) other in let none = other n (λ e. d (sym e)) in omega (arith, linear))
    (cases_eq j n)

-- terms that are at most b, either way
pub sum_below-within : (f : ℕ → ℤ) (n b : ℕ) → ((i : ℕ) → i < n → unsigned_abs (f i) ≤ b) → unsigned_abs (sum_below f n) ≤ n * b
sum_below-within f zero b h = omega arith
sum_below-within f (suc n) b h =
    let rest = sum_below-within f n b (λ i less. h i (omega (arith, less))) in
    let last = h n (omega arith) in
    let both = plain (sum_below f n) (f n) (n * b) rest last in
    omega (arith, both)
  where
    plain : (s z : ℤ) (m : ℕ) → unsigned_abs s ≤ m → unsigned_abs z ≤ b → unsigned_abs (s +ℤ z) ≤ m + b
    plain s z m g k = omega (arith, ints, g, k)

-- one term more
pub sum_below-next : (f : ℕ → ℤ) (n : ℕ) → sum_below f (n + 1) ≡ sum_below f n +ℤ f n
sum_below-next f n = let e : n + 1 ≡ suc n = omega arith in ap (sum_below f) e

-- terms of the one sum that are at most b above those of the other
pub sum_below-apart : (f g : ℕ → ℤ) (n b : ℕ) → ((i : ℕ) → i < n → (g i -ℤ f i) ≤ℤ pos b) → (sum_below g n -ℤ sum_below f n) ≤ℤ pos (n * b)
sum_below-apart f g zero b h = omega (arith, ints)
sum_below-apart f g (suc n) b h =
    let rest = sum_below-apart f g n b (λ i less. h i (omega (arith, less))) in
    let last = h n (omega arith) in
    let more : suc n * b ≡ n * b + b = omega arith in
    plain (sum_below f n) (f n) (sum_below g n) (g n) (n * b) (suc n * b) more rest last
  where
    plain : (s x t y : ℤ) (m k : ℕ) → k ≡ m + b → (t -ℤ s) ≤ℤ pos m → (y -ℤ x) ≤ℤ pos b → ((t +ℤ y) -ℤ (s +ℤ x)) ≤ℤ pos k
    plain s x t y m k is p q = omega (arith, ints, is, p, q)

-- terms of the one sum that are no greater than those of the other
pub sum_below-ordered : (f g : ℕ → ℤ) (n : ℕ) → ((i : ℕ) → i < n → f i ≤ℤ g i) → sum_below f n ≤ℤ sum_below g n
sum_below-ordered f g zero h = omega (arith, ints)
sum_below-ordered f g (suc n) h =
    let rest = sum_below-ordered f g n (λ i less. h i (omega (arith, less))) in
    let last = h n (omega arith) in
    plain (sum_below f n) (f n) (sum_below g n) (g n) rest last
  where
    plain : (s x t y : ℤ) → s ≤ℤ t → x ≤ℤ y → (s +ℤ x) ≤ℤ (t +ℤ y)
    plain s x t y p q = omega (arith, ints, p, q)
