-- Theorems of ℤ that the library lacks: products with sums and the order, and the division that rounds down.
use Rattle.std.proofs.Common.{◌≡◌, ℕ, ◌+◌, ◌*◌, ◌<◌, ◌≤◌, ℤ, pos, negsuc, ◌+ℤ◌, ◌-ℤ◌, ◌*ℤ◌, neg_ℤ, ◌≤ℤ◌, unsigned_abs, arith, ap, sym, ◌∙◌, zero, suc, refl}
use Rattle.std.proofs.lemmas.Int.{ints}
use Rattle.std.specs.Int.{int_div_euclid}
use Rattle.std.proofs.Math.Nat.{mul-le-mul_left, le_of_mul-le-mul_left, mul-div-le, lt-mul-div-succ}
use lib.IntN.{*ℤ_comm, *ℤ-zero}
use borrow.Author.Differences.{up, down, same_in, same_out, lt_out, le_out, below_in, at_most_in, sum_is_lem, neg_is, product_is}

-- for `omega`: whole numbers up to sums and differences, where a product is an unknown
pub ruleset linear = (same_out, same_in, lt_out, le_out, below_in, at_most_in, sum_is_lem, neg_is)

-- the parts of a product above and below 0
pub up-*ℤ : (a b : ℤ) → up (a *ℤ b) ≡ up a * up b + down a * down b
up-*ℤ a b = (product_is a b).0

pub down-*ℤ : (a b : ℤ) → down (a *ℤ b) ≡ up a * down b + down a * up b
down-*ℤ a b = (product_is a b).1

pub *ℤ_assoc : (a b c : ℤ) → (a *ℤ b) *ℤ c ≡ a *ℤ (b *ℤ c)
*ℤ_assoc a b c = same_in _ _ (simp (up-*ℤ, down-*ℤ) (omega arith))

pub *ℤ-+ℤ : (a b c : ℤ) → a *ℤ (b +ℤ c) ≡ a *ℤ b +ℤ a *ℤ c
*ℤ-+ℤ a b c =
    let sum = sum_is_lem b c in
    let above = ap (λ z. up a * z) sum in
    let below = ap (λ z. down a * z) sum in
    omega (arith, ints)

pub *ℤ-neg_ℤ : (a b : ℤ) → a *ℤ neg_ℤ b ≡ neg_ℤ (a *ℤ b)
*ℤ-neg_ℤ a b =
    let first = ap (λ z. up a * z) (neg_is b).0 in
    let second = ap (λ z. up a * z) (neg_is b).1 in
    let third = ap (λ z. down a * z) (neg_is b).0 in
    let fourth = ap (λ z. down a * z) (neg_is b).1 in
    omega (arith, ints)

pub *ℤ--ℤ : (a b c : ℤ) → a *ℤ (b -ℤ c) ≡ a *ℤ b -ℤ a *ℤ c
*ℤ--ℤ a b c =
    let sum = *ℤ-+ℤ a b (neg_ℤ c) in
    let minus = *ℤ-neg_ℤ a c in
    omega (arith, linear)

pub +ℤ-*ℤ : (a b c : ℤ) → (a +ℤ b) *ℤ c ≡ a *ℤ c +ℤ b *ℤ c
+ℤ-*ℤ a b c =
    let turned = *ℤ_comm (a +ℤ b) c in
    let sum = *ℤ-+ℤ c a b in
    let first = *ℤ_comm a c in
    let second = *ℤ_comm b c in
    omega (arith, linear)

-- a (b c) is b (a c), and c (b a)
pub *ℤ_left_comm : (a b c : ℤ) → a *ℤ (b *ℤ c) ≡ b *ℤ (a *ℤ c)
*ℤ_left_comm a b c = sym (*ℤ_assoc a b c) ∙ ap (λ z. z *ℤ c) (*ℤ_comm a b) ∙ *ℤ_assoc b a c

pub *ℤ_turn : (a b c : ℤ) → a *ℤ (b *ℤ c) ≡ c *ℤ (b *ℤ a)
*ℤ_turn a b c = *ℤ_left_comm a b c ∙ ap (λ z. b *ℤ z) (*ℤ_comm a c) ∙ *ℤ_left_comm b c a

-- an order is kept by a factor that is not below 0
pub *ℤ-≤ℤ : (c : ℕ) (a b : ℤ) → a ≤ℤ b → (pos c *ℤ a) ≤ℤ (pos c *ℤ b)
*ℤ-≤ℤ c a b h =
    let plain : up a + down b ≤ up b + down a = omega (arith, ints) in
    let times : c * (up a + down b) ≤ c * (up b + down a) = mul-le-mul_left c plain in
    omega (arith, ints)

-- and a factor above 0 can be taken off
pub ≤ℤ-from_*ℤ : (c : ℕ) (a b : ℤ) → 0 < c → (pos c *ℤ a) ≤ℤ (pos c *ℤ b) → a ≤ℤ b
≤ℤ-from_*ℤ c a b h k =
    let times : c * (up a + down b) ≤ c * (up b + down a) = omega (arith, ints) in
    let plain : up a + down b ≤ up b + down a = le_of_mul-le-mul_left times h in
    omega (arith, ints)

-- d times z / d, rounded down, is at most z
pub mul-int_div_euclid : (z : ℤ) (d : ℕ) → 0 < d → (pos d *ℤ int_div_euclid z (pos d)) ≤ℤ z
mul-int_div_euclid (pos a) d h = let e = mul-div-le a d in omega (arith, ints)
mul-int_div_euclid (negsuc a) d h = let e = lt-mul-div-succ a h in omega (arith, ints)

-- an absolute value in the two parts of a whole number
pub abs-parts : (z : ℤ) → unsigned_abs z ≡ up z + down z
abs-parts (pos n) = omega arith
abs-parts (negsuc n) = omega arith

-- a number and the one with its sign turned are equally great
pub abs-neg_ℤ : (z : ℤ) → unsigned_abs (neg_ℤ z) ≡ unsigned_abs z
abs-neg_ℤ (pos zero) = refl
abs-neg_ℤ (pos (suc n)) = refl
abs-neg_ℤ (negsuc n) = refl

-- a product with a number above 0 that is 0
pub nothing_from : (c : ℕ) (z : ℤ) → 0 < c → pos c *ℤ z ≡ pos 0 → z ≡ pos 0
nothing_from c z h is =
    let none = *ℤ-zero (pos c) in
    let up_to : (pos c *ℤ z) ≤ℤ (pos c *ℤ pos 0) = omega (arith, linear) in
    let from : (pos c *ℤ pos 0) ≤ℤ (pos c *ℤ z) = omega (arith, linear) in
    let most = ≤ℤ-from_*ℤ c z (pos 0) h up_to in
    let least = ≤ℤ-from_*ℤ c (pos 0) z h from in
    omega (arith, linear)
