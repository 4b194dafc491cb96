-- Plain numbers: what taking out one unknown needs.
use Rattle.std.proofs.Common.{◌≡◌, ◌⊎◌, ℕ, zero, suc, ℤ, pos, negsuc, ◌+ℤ◌, ◌*ℤ◌, neg_ℤ, unsigned_abs, ◌<◌, arith, refl, ap, sym, ◌∙◌, inl, inr}
use lib.IntN.{*ℤ_comm, *ℤ-zero}
use Rattle.std.proofs.lemmas.Int.{ints, unsigned_abs-mul}
use Rattle.gic_exists.specs.Linear.{mix}
use Rattle.gic_fixed.proofs.Divisions.{positive_product}
use Rattle.gic_fixed.proofs.Integers.{linear, *ℤ_assoc, *ℤ-+ℤ, +ℤ-*ℤ, *ℤ-neg_ℤ, *ℤ_left_comm}

-- a whole number is 0 or it is not
pub none_or_some : (z : ℤ) → (z ≡ pos 0) ⊎ (z ≡ pos 0 → ⊥)
none_or_some (pos zero) = inl refl
none_or_some (pos (suc n)) = inr (λ is. omega (arith, ints))
none_or_some (negsuc n) = inr (λ is. omega (arith, ints))

-- two mixtures mixed, in either order
pub mix_swap : (a b c d p q r s : ℤ) → mix a b (mix c d p q) (mix c d r s) ≡ mix c d (mix a b p r) (mix a b q s)
mix_swap a b c d p q r s =
    let one = *ℤ-+ℤ a (c *ℤ p) (d *ℤ q) in
    let two = *ℤ-+ℤ b (c *ℤ r) (d *ℤ s) in
    let three = *ℤ-+ℤ c (a *ℤ p) (b *ℤ r) in
    let four = *ℤ-+ℤ d (a *ℤ q) (b *ℤ s) in
    let first = *ℤ_left_comm a c p in
    let second = *ℤ_left_comm a d q in
    let third = *ℤ_left_comm b c r in
    let fourth = *ℤ_left_comm b d s in
    omega (arith, linear)

-- the pivot's row: a f + (d b - f) a is (a d) b
pub pivot_row : (a f d b : ℤ) → mix a (d *ℤ b +ℤ neg_ℤ f) f a ≡ (a *ℤ d) *ℤ b
pivot_row a f d b =
    let split = +ℤ-*ℤ (d *ℤ b) (neg_ℤ f) a in
    let turned = *ℤ_comm (neg_ℤ f) a in
    let minus = *ℤ-neg_ℤ a f in
    let there = *ℤ_comm (d *ℤ b) a in
    let out = *ℤ_assoc a d b in
    omega (arith, linear)

-- another row: where a g - c f is d (a e - c b), there a g + (d b - f) c is (a d) e
pub other_row : (a c g f d b e : ℤ) → mix a (neg_ℤ c) g f ≡ d *ℤ mix a (neg_ℤ c) e b → mix a (d *ℤ b +ℤ neg_ℤ f) g c ≡ (a *ℤ d) *ℤ e
other_row a c g f d b e h =
    let right = *ℤ-+ℤ d (a *ℤ e) (neg_ℤ c *ℤ b) in
    let right_first = *ℤ_left_comm d a e in
    let right_out = *ℤ_assoc a d e in
    let right_second = *ℤ_left_comm d (neg_ℤ c) b in
    let right_turned = *ℤ_comm (neg_ℤ c) (d *ℤ b) in
    let right_minus = *ℤ-neg_ℤ (d *ℤ b) c in
    let left = +ℤ-*ℤ (d *ℤ b) (neg_ℤ f) c in
    let left_turned = *ℤ_comm (neg_ℤ f) c in
    let left_minus = *ℤ-neg_ℤ c f in
    let known = *ℤ_comm (neg_ℤ c) f in
    let known_minus = *ℤ-neg_ℤ f c in
    let known_turned = *ℤ_comm f c in
    omega (arith, linear)

-- the same with nothing on the right
pub pivot_none : (a f : ℤ) → mix a (neg_ℤ f) f a ≡ pos 0
pivot_none a f =
    let turned = *ℤ_comm (neg_ℤ f) a in
    let minus = *ℤ-neg_ℤ a f in
    omega (arith, linear)

pub other_none : (a c g f : ℤ) → mix a (neg_ℤ c) g f ≡ pos 0 → mix a (neg_ℤ f) g c ≡ pos 0
other_none a c g f h =
    let turned = *ℤ_comm (neg_ℤ f) c in
    let minus = *ℤ-neg_ℤ c f in
    let known = *ℤ_comm (neg_ℤ c) f in
    let known_minus = *ℤ-neg_ℤ f c in
    let known_turned = *ℤ_comm f c in
    omega (arith, linear)

-- a mixture of nothing
pub mix_nothing : (c d a b : ℤ) → a ≡ pos 0 → b ≡ pos 0 → mix c d a b ≡ pos 0
mix_nothing c d a b h k =
    let first = ap (λ z. c *ℤ z) h ∙ *ℤ-zero c in
    let second = ap (λ z. d *ℤ z) k ∙ *ℤ-zero d in
    omega (arith, linear)

pub mix_first : (c d a b : ℤ) → b ≡ pos 0 → mix c d a b ≡ c *ℤ a
mix_first c d a b k =
    let second = ap (λ z. d *ℤ z) k ∙ *ℤ-zero d in
    omega (arith, linear)

size_above_0 : (z : ℤ) → (z ≡ pos 0 → ⊥) → 0 < unsigned_abs z
size_above_0 (pos zero) some = absurd (some refl)
size_above_0 (pos (suc n)) some = omega arith
size_above_0 (negsuc n) some = omega arith

-- a product of two numbers other than 0 is not 0
pub product_not_0 : (a b : ℤ) → (a ≡ pos 0 → ⊥) → (b ≡ pos 0 → ⊥) → a *ℤ b ≡ pos 0 → ⊥
product_not_0 a b some_a some_b is =
    let size = sym (unsigned_abs-mul a b) ∙ ap unsigned_abs is in
    let above_0 = positive_product (unsigned_abs a) (unsigned_abs b) (size_above_0 a some_a) (size_above_0 b some_b) in
    omega arith

-- both sides turned
pub turned : (d : ℕ) (a b : ℤ) → a ≡ negsuc d *ℤ b → mix (negsuc 0) (pos 0) a a ≡ pos (suc d) *ℤ b
turned d a b h =
    let minus = *ℤ-neg_ℤ b (pos (suc d)) in
    let there = *ℤ_comm b (negsuc d) in
    let here = *ℤ_comm b (pos (suc d)) in
    let whole : mix (negsuc 0) (pos 0) a a ≡ neg_ℤ a = omega (arith, ints) in
    omega (arith, linear)
