-- Over plain numbers: how far products of numbers near exact ones are from the exact products, and quotients of these, rounded outward, from the exact part.
use Rattle.std.proofs.Common.{◌≡◌, ℕ, suc, ◌+◌, ◌-◌, ◌*◌, ◌<◌, ◌≤◌, ◌⊎◌, ⊎_elim, Bool, true, false, cond, int_lt, max}
use Rattle.std.proofs.Common.{ℤ, pos, negsuc, ◌+ℤ◌, ◌-ℤ◌, ◌*ℤ◌, neg_ℤ, ◌≤ℤ◌, unsigned_abs, arith, refl, ap, sym, subst, ◌∙◌}
use lib.IntN.{*ℤ_comm, *ℤ-zero}
use Rattle.std.specs.Int.{int_min, int_max}
use Rattle.std.proofs.lemmas.Int.{ints, clamps}
use Rattle.std.proofs.Math.Nat.{mul-le-mul_left, mul-le-mul_right}
use Rattle.gic_fixed.specs.Rounding.{floor_div, ceil_div}
use Rattle.gic_fixed.proofs.Divisions.{floor_above, floor_ge, ceil_below, ceil_le, positive_product}
use Rattle.gic_fixed.proofs.Integers.{linear, *ℤ-≤ℤ, ≤ℤ-from_*ℤ, *ℤ-+ℤ, *ℤ--ℤ, *ℤ-neg_ℤ, *ℤ_left_comm, abs-neg_ℤ}

-- a factor below 0
minus_factor : (n : ℕ) (t : ℤ) → negsuc n *ℤ t ≡ neg_ℤ (pos (suc n) *ℤ t)
minus_factor n t = *ℤ_comm (negsuc n) t ∙ *ℤ-neg_ℤ t (pos (suc n)) ∙ ap neg_ℤ (*ℤ_comm t (pos (suc n)))

-- n times what is from -b to b
within_times : (n b : ℕ) (t : ℤ) → neg_ℤ (pos b) ≤ℤ t → t ≤ℤ pos b → (neg_ℤ (pos (n * b)) ≤ℤ (pos n *ℤ t)) × ((pos n *ℤ t) ≤ℤ pos (n * b))
within_times n b t low high =
    let least = *ℤ-≤ℤ n (neg_ℤ (pos b)) t low in
    let minus : pos n *ℤ neg_ℤ (pos b) ≡ neg_ℤ (pos (n * b)) = *ℤ-neg_ℤ (pos n) (pos b) in
    let most : (pos n *ℤ t) ≤ℤ pos (n * b) = *ℤ-≤ℤ n t (pos b) high in
    (omega (arith, linear), omega (arith, linear))

-- what is from -r to r times what is from -b to b
product_within : (s t : ℤ) (r b : ℕ) → neg_ℤ (pos r) ≤ℤ s → s ≤ℤ pos r → neg_ℤ (pos b) ≤ℤ t → t ≤ℤ pos b →
    (neg_ℤ (pos (r * b)) ≤ℤ (s *ℤ t)) × ((s *ℤ t) ≤ℤ pos (r * b))
product_within (pos n) t r b s_low s_high low high =
    let inner = within_times n b t low high in
    let wider : n * b ≤ r * b = mul-le-mul_right b (omega (arith, ints)) in
    (omega (arith, linear, inner.0), omega (arith, linear, inner.1))
product_within (negsuc n) t r b s_low s_high low high =
    let inner = within_times (suc n) b t low high in
    let wider : suc n * b ≤ r * b = mul-le-mul_right b (omega (arith, ints)) in
    let turned = minus_factor n t in
    (omega (arith, linear, inner.1), omega (arith, linear, inner.0))

-- y times what is between two exact numbers, or beyond them by at most b
by_exact : (y t lo hi : ℤ) (b : ℕ) → (lo -ℤ pos b) ≤ℤ t → t ≤ℤ (hi +ℤ pos b) →
    ((int_min (y *ℤ lo) (y *ℤ hi) -ℤ pos (unsigned_abs y * b)) ≤ℤ (y *ℤ t)) × ((y *ℤ t) ≤ℤ (int_max (y *ℤ lo) (y *ℤ hi) +ℤ pos (unsigned_abs y * b)))
by_exact (pos n) t lo hi b low high =
    let least = *ℤ-≤ℤ n (lo -ℤ pos b) t low in
    let least_split = *ℤ--ℤ (pos n) lo (pos b) in
    let most = *ℤ-≤ℤ n t (hi +ℤ pos b) high in
    let most_split = *ℤ-+ℤ (pos n) hi (pos b) in
    let same : pos n *ℤ pos b ≡ pos (n * b) = refl in
    (omega (arith, linear, clamps), omega (arith, linear, clamps))
by_exact (negsuc n) t lo hi b low high =
    let least = *ℤ-≤ℤ (suc n) (lo -ℤ pos b) t low in
    let least_split = *ℤ--ℤ (pos (suc n)) lo (pos b) in
    let most = *ℤ-≤ℤ (suc n) t (hi +ℤ pos b) high in
    let most_split = *ℤ-+ℤ (pos (suc n)) hi (pos b) in
    let same : pos (suc n) *ℤ pos b ≡ pos (suc n * b) = refl in
    let first = minus_factor n t in
    let second = minus_factor n lo in
    let third = minus_factor n hi in
    (omega (arith, linear, clamps), omega (arith, linear, clamps))

-- two parts of a product added up
both_parts : (low high p q s : ℤ) (e f : ℕ) → (low -ℤ pos e) ≤ℤ p → p ≤ℤ (high +ℤ pos e) → neg_ℤ (pos f) ≤ℤ s → s ≤ℤ pos f → s ≡ q -ℤ p →
    ((low -ℤ pos (e + f)) ≤ℤ q) × (q ≤ℤ (high +ℤ pos (e + f)))
both_parts low high p q s e f at_least at_most s_least s_most is = (omega (arith, linear), omega (arith, linear))

-- f is at most r from y, and t at most b beyond two exact numbers, which are m at most
pub near_product : (y f t lo hi : ℤ) (r b m : ℕ) → (y -ℤ pos r) ≤ℤ f → f ≤ℤ (y +ℤ pos r) → (lo -ℤ pos b) ≤ℤ t → t ≤ℤ (hi +ℤ pos b) →
    unsigned_abs lo ≤ m → unsigned_abs hi ≤ m →
    ((int_min (y *ℤ lo) (y *ℤ hi) -ℤ pos (unsigned_abs y * b + r * (m + b))) ≤ℤ (f *ℤ t)) ×
    ((f *ℤ t) ≤ℤ (int_max (y *ℤ lo) (y *ℤ hi) +ℤ pos (unsigned_abs y * b + r * (m + b))))
near_product y f t lo hi r b m f_low f_high low high lo_small hi_small =
    let exact = by_exact y t lo hi b low high in
    let rest = product_within (f -ℤ y) t r (m + b) (omega (arith, linear)) (omega (arith, linear)) (omega (arith, ints)) (omega (arith, ints)) in
    let split : (f -ℤ y) *ℤ t ≡ f *ℤ t -ℤ y *ℤ t =
    let turned = *ℤ_comm (f -ℤ y) t in let parts = *ℤ--ℤ t f y in let one = *ℤ_comm t f in let other = *ℤ_comm t y in omega (arith, linear) in
    both_parts (int_min (y *ℤ lo) (y *ℤ hi)) (int_max (y *ℤ lo) (y *ℤ hi)) (y *ℤ t) (f *ℤ t) ((f -ℤ y) *ℤ t) (unsigned_abs y * b) (r * (m + b)) exact.0 exact.1 rest.0 rest.1 split

-- what holds of both numbers holds of the lesser, and of the greater
of_cond : (P : ℤ → Type 0) (a b : ℤ) (t : Bool) → P a → P b → P (cond t a b)
of_cond P a b true h k = h
of_cond P a b false h k = k

pub of_lesser : (P : ℤ → Type 0) (a b : ℤ) → P a → P b → P (int_min a b)
of_lesser P a b h k = of_cond P b a (int_lt b a) k h

pub of_greater : (P : ℤ → Type 0) (a b : ℤ) → P a → P b → P (int_max a b)
of_greater P a b h k = of_cond P a b (int_lt b a) h k

-- a quotient rounded down, less than one below
pub floor_near : (c o k : ℕ) (p top : ℤ) → 0 < o → (pos k *ℤ p) ≤ℤ top →
    neg_ℤ (pos c *ℤ top) ≤ℤ (pos k *ℤ (pos o *ℤ (floor_div (neg_ℤ (pos c *ℤ p)) (pos o) +ℤ pos 1)))
floor_near c o k p top some bound =
    let f = floor_div (neg_ℤ (pos c *ℤ p)) (pos o) in
    let above = floor_above (neg_ℤ (pos c *ℤ p)) o some in
    let more = *ℤ-+ℤ (pos o) f (pos 1) in
    let one : pos o *ℤ pos 1 ≡ pos o = omega (arith, linear) in
    let scaled = *ℤ-≤ℤ k (neg_ℤ (pos c *ℤ p)) (pos o *ℤ (f +ℤ pos 1)) (omega (arith, linear)) in
    let minus = *ℤ-neg_ℤ (pos k) (pos c *ℤ p) in
    let turned = *ℤ_left_comm (pos k) (pos c) p in
    let times = *ℤ-≤ℤ c (pos k *ℤ p) top bound in
    omega (arith, linear)

-- rounded up, less than one above
pub ceil_near : (c o k : ℕ) (p bottom : ℤ) → 0 < o → bottom ≤ℤ (pos k *ℤ p) →
    (pos k *ℤ (pos o *ℤ (ceil_div (neg_ℤ (pos c *ℤ p)) (pos o) -ℤ pos 1))) ≤ℤ neg_ℤ (pos c *ℤ bottom)
ceil_near c o k p bottom some bound =
    let f = ceil_div (neg_ℤ (pos c *ℤ p)) (pos o) in
    let below = ceil_below (neg_ℤ (pos c *ℤ p)) o some in
    let less = *ℤ--ℤ (pos o) f (pos 1) in
    let one : pos o *ℤ pos 1 ≡ pos o = omega (arith, linear) in
    let scaled = *ℤ-≤ℤ k (pos o *ℤ (f -ℤ pos 1)) (neg_ℤ (pos c *ℤ p)) (omega (arith, linear)) in
    let minus = *ℤ-neg_ℤ (pos k) (pos c *ℤ p) in
    let turned = *ℤ_left_comm (pos k) (pos c) p in
    let times = *ℤ-≤ℤ c bottom (pos k *ℤ p) bound in
    omega (arith, linear)

-- nothing as a number of times
no_times : (n : ℕ) (p : ℤ) → n ≡ 0 → pos n *ℤ p ≡ pos 0
no_times n p none = ap (λ (q : ℕ). pos q *ℤ p) none ∙ *ℤ_comm (pos 0) p ∙ *ℤ-zero p

-- the end without a difference of resistances is 0, and so is not below the least, nor above the greatest
pub least_near : (c n o d k : ℕ) (p top : ℤ) → n ≡ 0 → 0 < d → pos 0 ≤ℤ top →
    neg_ℤ (pos c *ℤ top) ≤ℤ (pos k *ℤ (pos o *ℤ (floor_div (pos n *ℤ p) (pos d) +ℤ pos 1)))
least_near c n o d k p top none some above =
    let e = floor_div (pos n *ℤ p) (pos d) in
    let nothing = no_times n p none in
    let at_d = *ℤ-zero (pos d) in
    let order = floor_ge (pos n *ℤ p) d (pos 0) some (omega (arith, linear)) in
    let at_o = *ℤ-zero (pos o) in
    let inner = *ℤ-≤ℤ o (pos 0) (e +ℤ pos 1) (omega (arith, linear)) in
    let at_k = *ℤ-zero (pos k) in
    let outer = *ℤ-≤ℤ k (pos 0) (pos o *ℤ (e +ℤ pos 1)) (omega (arith, linear)) in
    let at_c = *ℤ-zero (pos c) in
    let times = *ℤ-≤ℤ c (pos 0) top above in
    omega (arith, linear)

pub most_near : (c n o d k : ℕ) (p bottom : ℤ) → n ≡ 0 → 0 < d → bottom ≤ℤ pos 0 →
    (pos k *ℤ (pos o *ℤ (ceil_div (pos n *ℤ p) (pos d) -ℤ pos 1))) ≤ℤ neg_ℤ (pos c *ℤ bottom)
most_near c n o d k p bottom none some below =
    let e = ceil_div (pos n *ℤ p) (pos d) in
    let nothing = no_times n p none in
    let at_d = *ℤ-zero (pos d) in
    let order = ceil_le (pos n *ℤ p) d (pos 0) some (omega (arith, linear)) in
    let at_o = *ℤ-zero (pos o) in
    let inner = *ℤ-≤ℤ o (e -ℤ pos 1) (pos 0) (omega (arith, linear)) in
    let at_k = *ℤ-zero (pos k) in
    let outer = *ℤ-≤ℤ k (pos o *ℤ (e -ℤ pos 1)) (pos 0) (omega (arith, linear)) in
    let at_c = *ℤ-zero (pos c) in
    let times = *ℤ-≤ℤ c bottom (pos 0) below in
    omega (arith, linear)

-- a low end less than a unit below the least that there is, and a high end alike, divided by n
pub low_divided : (c n : ℕ) (part whole off top more reach : ℤ) → 0 < n → pos n *ℤ part ≡ neg_ℤ (pos c *ℤ top) →
    neg_ℤ (pos c *ℤ (top +ℤ more)) ≤ℤ reach → reach ≡ pos n *ℤ whole → (pos c *ℤ more) ≤ℤ (pos n *ℤ off) → part ≤ℤ (whole +ℤ off)
low_divided c n part whole off top more reach some is bound same small =
    let split = *ℤ-+ℤ (pos c) top more in
    let sum = *ℤ-+ℤ (pos n) whole off in
    ≤ℤ-from_*ℤ n part (whole +ℤ off) some (omega (arith, linear))

pub high_divided : (c n : ℕ) (part whole off bottom more reach : ℤ) → 0 < n → pos n *ℤ part ≡ neg_ℤ (pos c *ℤ bottom) →
    reach ≤ℤ neg_ℤ (pos c *ℤ (bottom -ℤ more)) → reach ≡ pos n *ℤ whole → (pos c *ℤ more) ≤ℤ (pos n *ℤ off) → whole ≤ℤ (part +ℤ off)
high_divided c n part whole off bottom more reach some is bound same small =
    let split = *ℤ--ℤ (pos c) bottom more in
    let sum = *ℤ-+ℤ (pos n) part off in
    ≤ℤ-from_*ℤ n whole (part +ℤ off) some (omega (arith, linear))

-- an absolute value of a product
pub abs_times : (n : ℕ) (z : ℤ) → unsigned_abs (pos n *ℤ z) ≡ n * unsigned_abs z
abs_times n (pos k) = refl
abs_times n (negsuc k) = ap unsigned_abs (*ℤ-neg_ℤ (pos n) (pos (suc k))) ∙ abs-neg_ℤ (pos (n * suc k))

-- the greater of two is one of them
either_max : (p q : ℕ) → (max p q ≡ p) ⊎ (max p q ≡ q)
either_max p q = grind arith

-- so many times the greater of two
pub times_max : (w p q : ℕ) (r : ℤ) → (pos w *ℤ pos p) ≤ℤ r → (pos w *ℤ pos q) ≤ℤ r → (pos w *ℤ pos (max p q)) ≤ℤ r
times_max w p q r h k = ⊎_elim (λ is. subst (λ (n : ℕ). (pos w *ℤ pos n) ≤ℤ r) (sym is) h) (λ is. subst (λ (n : ℕ). (pos w *ℤ pos n) ≤ℤ r) (sym is) k) (either_max p q)

-- the difference w s / (m l) of a ground's conductances drives no more than the greater one, w / l, does
shared : (l m w s p q : ℕ) → s ≤ m → w * p ≤ l * q → w * s * p ≤ m * l * q
shared l m w s p q few h =
    let first : s * (w * p) ≤ s * (l * q) = mul-le-mul_left s h in
    let second : s * (l * q) ≤ m * (l * q) = mul-le-mul_right (l * q) few in
    omega arith

-- all that the products are beyond, times the difference of the conductances
sum_shared : (c n y z i m g b r : ℕ) → c * y ≤ n * z → c * m ≤ n * i → c ≤ n * g → c * (y * b + r * (m + b)) ≤ n * (b * z + r * (i + b * g))
sum_shared c n y z i m g b r by_y by_m by_g =
    let first : b * (c * y) ≤ b * (n * z) = mul-le-mul_left b by_y in
    let second : r * (c * m) ≤ r * (n * i) = mul-le-mul_left r by_m in
    let third : r * b * c ≤ r * b * (n * g) = mul-le-mul_left (r * b) by_g in
    omega arith

-- from how far the products are to how far the ends of the stray power are, in currents and conductances
pub off_bound : (l m w y z k g b r : ℕ) (i : ℤ) → 0 < l → w * y ≤ l * z → (pos w *ℤ pos k) ≤ℤ (pos l *ℤ i) → w ≤ l * g →
    pos (w * (m - l) * (y * b + r * (k + b))) ≤ℤ (pos (m * l) *ℤ (pos b *ℤ pos z +ℤ pos r *ℤ (i +ℤ pos (b * g))))
off_bound l m w y z k g b r (pos j) some by_y by_k by_g =
    let in_k : w * k ≤ l * j = omega (arith, ints) in
    let first : w * (m - l) * y ≤ m * l * z = shared l m w (m - l) y z (omega arith) by_y in
    let second : w * (m - l) * k ≤ m * l * j = shared l m w (m - l) k j (omega arith) in_k in
    let third : w * (m - l) * 1 ≤ m * l * g = shared l m w (m - l) 1 g (omega arith) (omega arith) in
    let all : w * (m - l) * (y * b + r * (k + b)) ≤ m * l * (b * z + r * (j + b * g)) = sum_shared (w * (m - l)) (m * l) y z j k g b r first second (omega arith) in
    omega (arith, ints, all)
off_bound l m w y z k g b r (negsuc j) some by_y by_k by_g =
    let minus : pos l *ℤ negsuc j ≡ neg_ℤ (pos (l * suc j)) = *ℤ-neg_ℤ (pos l) (pos (suc j)) in
    let above = positive_product l (suc j) some (omega arith) in
    absurd (omega (arith, linear))
