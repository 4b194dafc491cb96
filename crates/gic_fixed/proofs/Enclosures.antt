-- Intervals that enclose fractions, and the images of these.
use Rattle.std.proofs.Common.{◌≡◌, ℕ, ◌*◌, ◌<◌, Bool, true, false, cond, int_lt, suc, ℤ, pos, negsuc, ◌+ℤ◌, ◌*ℤ◌, neg_ℤ, ◌≤ℤ◌, unsigned_abs, arith, ap, sym, subst, ◌∙◌}
use Rattle.std.proofs.lemmas.Int.{ints, clamps}
use Rattle.std.specs.Int.{int_min, int_max}
use Rattle.gic_fixed.specs.Rounding.{floor_div, ceil_div, least_abs, greatest_abs}
use Rattle.gic_fixed.specs.Encloses.{Encloses, EnclosesAbsolute}
use Rattle.gic_fixed.proofs.Integers.{linear, *ℤ-≤ℤ, ≤ℤ-from_*ℤ, *ℤ-neg_ℤ, +ℤ-*ℤ, *ℤ_assoc}
use Rattle.gic_fixed.proofs.Divisions.{floor_below, ceil_above}
use lib.IntN.{*ℤ_comm}

-- an order is kept by a factor on the right
pub ≤ℤ-times : (a b : ℤ) (d : ℕ) → a ≤ℤ b → (a *ℤ pos d) ≤ℤ (b *ℤ pos d)
≤ℤ-times a b d h =
    let left = *ℤ-≤ℤ d a b h in
    let one = *ℤ_comm a (pos d) in
    let other = *ℤ_comm b (pos d) in
    omega (arith, linear)

neg-times : (a : ℤ) (d : ℕ) → neg_ℤ a *ℤ pos d ≡ neg_ℤ (a *ℤ pos d)
neg-times a d = *ℤ_comm (neg_ℤ a) (pos d) ∙ *ℤ-neg_ℤ (pos d) a ∙ ap neg_ℤ (*ℤ_comm (pos d) a)

-- a wider interval
pub Encloses-outer : (lo hi lo' hi' n : ℤ) (d : ℕ) → lo' ≤ℤ lo → hi ≤ℤ hi' → Encloses lo hi n d → Encloses lo' hi' n d
Encloses-outer lo hi lo' hi' n d low high e =
    let below = ≤ℤ-times lo' lo d low in
    let above = ≤ℤ-times hi hi' d high in
    record {
      above_lo = omega (arith, linear, e.above_lo);
      below_hi = omega (arith, linear, e.below_hi);
    }

-- an interval that encloses a fraction begins no higher than it ends
pub Encloses-in_order : (lo hi n : ℤ) (d : ℕ) → 0 < d → Encloses lo hi n d → lo ≤ℤ hi
Encloses-in_order lo hi n d some e =
    let first = *ℤ_comm lo (pos d) in
    let second = *ℤ_comm hi (pos d) in
    ≤ℤ-from_*ℤ d lo hi some (omega (arith, linear, first, second, e.above_lo, e.below_hi))

-- a factor of numerator and denominator
pub Encloses-common : (lo hi n : ℤ) (d c : ℕ) → Encloses lo hi n d → Encloses lo hi (pos c *ℤ n) (c * d)
Encloses-common lo hi n d c e =
    let low = *ℤ-≤ℤ c (lo *ℤ pos d) n e.above_lo in
    let high = *ℤ-≤ℤ c n (hi *ℤ pos d) e.below_hi in
    let one : lo *ℤ (pos c *ℤ pos d) ≡ pos c *ℤ (lo *ℤ pos d) = sym (*ℤ_assoc lo (pos c) (pos d)) ∙ ap (λ z. z *ℤ pos d) (*ℤ_comm lo (pos c)) ∙ *ℤ_assoc (pos c) lo (pos d) in
    let other : hi *ℤ (pos c *ℤ pos d) ≡ pos c *ℤ (hi *ℤ pos d) = sym (*ℤ_assoc hi (pos c) (pos d)) ∙ ap (λ z. z *ℤ pos d) (*ℤ_comm hi (pos c)) ∙ *ℤ_assoc (pos c) hi (pos d) in
    record {
      above_lo = omega (arith, linear);
      below_hi = omega (arith, linear);
    }

-- the sum of two fractions with one denominator
pub Encloses-add : (lo hi n lo' hi' n' : ℤ) (d : ℕ) → Encloses lo hi n d → Encloses lo' hi' n' d → Encloses (lo +ℤ lo') (hi +ℤ hi') (n +ℤ n') d
Encloses-add lo hi n lo' hi' n' d e f =
    let low = +ℤ-*ℤ lo lo' (pos d) in
    let high = +ℤ-*ℤ hi hi' (pos d) in
    record {
      above_lo = omega (arith, linear, e.above_lo, f.above_lo);
      below_hi = omega (arith, linear, e.below_hi, f.below_hi);
    }

pub Encloses-neg : (lo hi n : ℤ) (d : ℕ) → Encloses lo hi n d → Encloses (neg_ℤ hi) (neg_ℤ lo) (neg_ℤ n) d
Encloses-neg lo hi n d e =
    let low = neg-times lo d in
    let high = neg-times hi d in
    record {
      above_lo = omega (arith, linear, e.below_hi);
      below_hi = omega (arith, linear, e.above_lo);
    }

-- the product with a whole number that is not below 0
pub Encloses-times : (lo hi n : ℤ) (d c : ℕ) → Encloses lo hi n d → Encloses (pos c *ℤ lo) (pos c *ℤ hi) (pos c *ℤ n) d
Encloses-times lo hi n d c e =
    let low = *ℤ-≤ℤ c (lo *ℤ pos d) n e.above_lo in
    let high = *ℤ-≤ℤ c n (hi *ℤ pos d) e.below_hi in
    let one = *ℤ_assoc (pos c) lo (pos d) in
    let other = *ℤ_assoc (pos c) hi (pos d) in
    record {
      above_lo = omega (arith, linear);
      below_hi = omega (arith, linear);
    }

pub Encloses-scale : (lo hi n : ℤ) (d : ℕ) (k : ℤ) → Encloses lo hi n d → Encloses (int_min (lo *ℤ k) (hi *ℤ k)) (int_max (lo *ℤ k) (hi *ℤ k)) (n *ℤ k) d
Encloses-scale lo hi n d (pos c) e =
    let times = Encloses-times lo hi n d c e in
    let one = *ℤ_comm lo (pos c) in
    let other = *ℤ_comm hi (pos c) in
    let number = *ℤ_comm n (pos c) in
    subst (λ (m : ℤ). Encloses (int_min (lo *ℤ pos c) (hi *ℤ pos c)) (int_max (lo *ℤ pos c) (hi *ℤ pos c)) m d) (sym number)
    (Encloses-outer (pos c *ℤ lo) (pos c *ℤ hi) _ _ (pos c *ℤ n) d (omega (arith, linear, clamps)) (omega (arith, linear, clamps)) times)
Encloses-scale lo hi n d (negsuc c) e =
    let times = Encloses-neg _ _ _ d (Encloses-times lo hi n d (suc c) e) in
    let one : lo *ℤ negsuc c ≡ neg_ℤ (pos (suc c) *ℤ lo) = *ℤ-neg_ℤ lo (pos (suc c)) ∙ ap neg_ℤ (*ℤ_comm lo (pos (suc c))) in
    let other : hi *ℤ negsuc c ≡ neg_ℤ (pos (suc c) *ℤ hi) = *ℤ-neg_ℤ hi (pos (suc c)) ∙ ap neg_ℤ (*ℤ_comm hi (pos (suc c))) in
    let number : n *ℤ negsuc c ≡ neg_ℤ (pos (suc c) *ℤ n) = *ℤ-neg_ℤ n (pos (suc c)) ∙ ap neg_ℤ (*ℤ_comm n (pos (suc c))) in
    subst (λ (m : ℤ). Encloses (int_min (lo *ℤ negsuc c) (hi *ℤ negsuc c)) (int_max (lo *ℤ negsuc c) (hi *ℤ negsuc c)) m d) (sym number)
    (Encloses-outer _ _ _ _ _ d (omega (arith, linear, clamps)) (omega (arith, linear, clamps)) times)

-- the greater of two numbers that both are below
greater : (a b z : ℤ) (d : ℕ) (t : Bool) → (a *ℤ pos d) ≤ℤ z → (b *ℤ pos d) ≤ℤ z → (cond t a b *ℤ pos d) ≤ℤ z
greater a b z d true h k = h
greater a b z d false h k = k

abs_at_most : (n z : ℤ) → n ≤ℤ z → neg_ℤ n ≤ℤ z → pos (unsigned_abs n) ≤ℤ z
abs_at_most n z h k = omega (arith, ints)

pub Encloses-abs : (lo hi n : ℤ) (d : ℕ) → Encloses lo hi n d → EnclosesAbsolute (least_abs lo hi) (greatest_abs lo hi) n d
Encloses-abs lo hi n d e =
    let low = neg-times lo d in
    let high = neg-times hi d in
    let none : (pos 0 *ℤ pos d) ≤ℤ pos (unsigned_abs n) = omega (arith, ints) in
    let first : (lo *ℤ pos d) ≤ℤ pos (unsigned_abs n) = omega (arith, ints, e.above_lo) in
    let second : (neg_ℤ hi *ℤ pos d) ≤ℤ pos (unsigned_abs n) = omega (arith, ints, e.below_hi) in
    let wide = ≤ℤ-times hi (greatest_abs lo hi) d (omega (arith, ints, clamps)) in
    let wide_turned = ≤ℤ-times (neg_ℤ lo) (greatest_abs lo hi) d (omega (arith, ints, clamps)) in
    record {
      above_lo = greater (pos 0) (int_max lo (neg_ℤ hi)) _ d (int_lt (int_max lo (neg_ℤ hi)) (pos 0)) none (greater lo (neg_ℤ hi) _ d (int_lt (neg_ℤ hi) lo) first second);
      below_hi = abs_at_most n _ (omega (arith, linear, e.below_hi)) (omega (arith, linear, e.above_lo));
    }

-- the quotient by a whole number
pub Encloses-div_out : (lo hi n : ℤ) (d c : ℕ) → 0 < c → Encloses lo hi n d → Encloses (floor_div lo (pos c)) (ceil_div hi (pos c)) n (c * d)
Encloses-div_out lo hi n d c h e =
    let f = floor_div lo (pos c) in
    let g = ceil_div hi (pos c) in
    let low = ≤ℤ-times (pos c *ℤ f) lo d (floor_below lo c h) in
    let high = ≤ℤ-times hi (pos c *ℤ g) d (ceil_above hi c h) in
    let one : f *ℤ (pos c *ℤ pos d) ≡ (pos c *ℤ f) *ℤ pos d = sym (*ℤ_assoc f (pos c) (pos d)) ∙ ap (λ z. z *ℤ pos d) (*ℤ_comm f (pos c)) in
    let other : g *ℤ (pos c *ℤ pos d) ≡ (pos c *ℤ g) *ℤ pos d = sym (*ℤ_assoc g (pos c) (pos d)) ∙ ap (λ z. z *ℤ pos d) (*ℤ_comm g (pos c)) in
    record {
      above_lo = omega (arith, linear, e.above_lo);
      below_hi = omega (arith, linear, e.below_hi);
    }

-- a factor of numerator and denominator is cancelled
pub Encloses-cancel : (lo hi n : ℤ) (d c : ℕ) → 0 < c → Encloses lo hi (pos c *ℤ n) (c * d) → Encloses lo hi n d
Encloses-cancel lo hi n d c h e =
    let one : lo *ℤ (pos c *ℤ pos d) ≡ pos c *ℤ (lo *ℤ pos d) = sym (*ℤ_assoc lo (pos c) (pos d)) ∙ ap (λ z. z *ℤ pos d) (*ℤ_comm lo (pos c)) ∙ *ℤ_assoc (pos c) lo (pos d) in
    let other : hi *ℤ (pos c *ℤ pos d) ≡ pos c *ℤ (hi *ℤ pos d) = sym (*ℤ_assoc hi (pos c) (pos d)) ∙ ap (λ z. z *ℤ pos d) (*ℤ_comm hi (pos c)) ∙ *ℤ_assoc (pos c) hi (pos d) in
    record {
      above_lo = ≤ℤ-from_*ℤ c (lo *ℤ pos d) n h (omega (arith, linear, e.above_lo));
      below_hi = ≤ℤ-from_*ℤ c n (hi *ℤ pos d) h (omega (arith, linear, e.below_hi));
    }

-- a whole number over a denominator
pub Encloses-point : (a : ℤ) (d : ℕ) → Encloses a a (a *ℤ pos d) d
Encloses-point a d = record { above_lo = omega (arith, linear); below_hi = omega (arith, linear) }

-- the ends of a product with a whole number that is not below 0
pub scale_low : (lo hi : ℤ) (k : ℕ) → lo ≤ℤ hi → int_min (lo *ℤ pos k) (hi *ℤ pos k) ≡ pos k *ℤ lo
scale_low lo hi k h =
    let order = ≤ℤ-times lo hi k h in
    let e = *ℤ_comm lo (pos k) in
    omega (arith, linear, clamps)

pub scale_high : (lo hi : ℤ) (k : ℕ) → lo ≤ℤ hi → int_max (lo *ℤ pos k) (hi *ℤ pos k) ≡ pos k *ℤ hi
scale_high lo hi k h =
    let order = ≤ℤ-times lo hi k h in
    let e = *ℤ_comm hi (pos k) in
    omega (arith, linear, clamps)
