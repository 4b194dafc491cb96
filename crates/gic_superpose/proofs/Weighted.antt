-- Weighted sums of currents that are combined, and of currents that agree.
use Rattle.std.proofs.Common.{◌≡◌, ℕ, List, [], ◌∷◌, ℤ, pos, ◌+ℤ◌, ◌*ℤ◌, arith, ap, sym, ◌∙◌}
use lib.IntN.{*ℤ_comm, *ℤ-zero}
use Rattle.gic_fixed.specs.Sums.{sum_of}
use Rattle.gic_fixed.proofs.Integers.{linear, *ℤ-+ℤ, +ℤ-*ℤ, *ℤ_assoc, *ℤ_left_comm}

-- one term of such a sum
term : (w f g c a d b : ℤ) → w *ℤ (c *ℤ (a *ℤ f) +ℤ d *ℤ (b *ℤ g)) ≡ c *ℤ (a *ℤ (w *ℤ f)) +ℤ d *ℤ (b *ℤ (w *ℤ g))
term w f g c a d b =
    let split = *ℤ-+ℤ w (c *ℤ (a *ℤ f)) (d *ℤ (b *ℤ g)) in
    let one : w *ℤ (c *ℤ (a *ℤ f)) ≡ c *ℤ (a *ℤ (w *ℤ f)) = *ℤ_left_comm w c (a *ℤ f) ∙ ap (λ z. c *ℤ z) (*ℤ_left_comm w a f) in
    let other : w *ℤ (d *ℤ (b *ℤ g)) ≡ d *ℤ (b *ℤ (w *ℤ g)) = *ℤ_left_comm w d (b *ℤ g) ∙ ap (λ z. d *ℤ z) (*ℤ_left_comm w b g) in
    omega (arith, linear)

-- a product with a sum
pub spread : (c a x y : ℤ) → c *ℤ (a *ℤ (x +ℤ y)) ≡ c *ℤ (a *ℤ x) +ℤ c *ℤ (a *ℤ y)
spread c a x y = ap (λ z. c *ℤ z) (*ℤ-+ℤ a x y) ∙ *ℤ-+ℤ c (a *ℤ x) (a *ℤ y)

none : (c a : ℤ) → c *ℤ (a *ℤ pos 0) ≡ pos 0
none c a = ap (λ z. c *ℤ z) (*ℤ-zero a) ∙ *ℤ-zero c

pub none_times : (z : ℤ) → pos 0 *ℤ z ≡ pos 0
none_times z = *ℤ_comm (pos 0) z ∙ *ℤ-zero z

module _ {X : Type 0} (weight : X → ℕ) (f g : X → ℤ) where
  pub sum_combined : (c a d b : ℤ) (xs : List X) → sum_of (λ x. pos (weight x) *ℤ (c *ℤ (a *ℤ f x) +ℤ d *ℤ (b *ℤ g x))) xs
      ≡ c *ℤ (a *ℤ sum_of (λ x. pos (weight x) *ℤ f x) xs) +ℤ d *ℤ (b *ℤ sum_of (λ x. pos (weight x) *ℤ g x) xs)
  sum_combined c a d b [] =
      let one = none c a in
      let other = none d b in
      omega (arith, linear)
  sum_combined c a d b (x ∷ xs) =
      let here = term (pos (weight x)) (f x) (g x) c a d b in
      let rest = sum_combined c a d b xs in
      let one = spread c a (pos (weight x) *ℤ f x) (sum_of (λ x. pos (weight x) *ℤ f x) xs) in
      let other = spread d b (pos (weight x) *ℤ g x) (sum_of (λ x. pos (weight x) *ℤ g x) xs) in
      omega (arith, linear)

  pub sum_agrees : (a b : ℤ) → ((x : X) → f x *ℤ a ≡ g x *ℤ b) → (xs : List X)
      → sum_of (λ x. pos (weight x) *ℤ f x) xs *ℤ a ≡ sum_of (λ x. pos (weight x) *ℤ g x) xs *ℤ b
  sum_agrees a b same [] = omega (arith, linear, none_times a, none_times b)
  sum_agrees a b same (x ∷ xs) =
      let w = pos (weight x) in
      let here : (w *ℤ f x) *ℤ a ≡ (w *ℤ g x) *ℤ b = *ℤ_assoc w (f x) a ∙ ap (λ z. w *ℤ z) (same x) ∙ sym (*ℤ_assoc w (g x) b) in
      let rest = sum_agrees a b same xs in
      let one = +ℤ-*ℤ (w *ℤ f x) (sum_of (λ x. pos (weight x) *ℤ f x) xs) a in
      let other = +ℤ-*ℤ (w *ℤ g x) (sum_of (λ x. pos (weight x) *ℤ g x) xs) b in
      omega (arith, linear)

  pub sum_times : (c : ℤ) (xs : List X) → sum_of (λ x. pos (weight x) *ℤ (c *ℤ f x)) xs ≡ c *ℤ sum_of (λ x. pos (weight x) *ℤ f x) xs
  sum_times c [] = sym (*ℤ-zero c)
  sum_times c (x ∷ xs) =
      let here = *ℤ_left_comm (pos (weight x)) c (f x) in
      let rest = sum_times c xs in
      let both = *ℤ-+ℤ c (pos (weight x) *ℤ f x) (sum_of (λ x. pos (weight x) *ℤ f x) xs) in
      omega (arith, linear)
