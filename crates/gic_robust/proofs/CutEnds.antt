-- Ends in milliamperes, rounded outward and cut, against exact ones.
use Rattle.std.proofs.Common.{◌≡◌, ℕ, ◌*◌, ◌^◌, ◌<◌, ◌≤◌, ◌⊎◌, inl, inr, ⊎_elim, List, [], ◌∷◌, ℤ, pos, negsuc, neg_ℤ, ◌+ℤ◌, ◌-ℤ◌, ◌*ℤ◌, ◌≤ℤ◌, ◌<ℤ◌, unsigned_abs, arith, ap, subst, ◌∙◌}
use Rattle.std.proofs.lemmas.Int.{ints, clamps}
use Rattle.std.proofs.lemmas.Bool.{cases_lt}
use Rattle.std.specs.Int.{int_min, int_max}
use Rattle.std.specs.List.{AllByRecursion}
use lib.IntN.{*ℤ_comm, *ℤ-zero}
use borrow.Author.Differences.{same_in}
use Rattle.gic_fixed.specs.Rounding.{floor_div, ceil_div}
use Rattle.gic_fixed.proofs.Divisions.{floor_above, ceil_below}
use Rattle.gic_fixed.proofs.Enclosures.{≤ℤ-times}
use Rattle.gic_fixed.proofs.Integers.{linear, up-*ℤ, down-*ℤ, *ℤ-≤ℤ, ≤ℤ-from_*ℤ, *ℤ--ℤ, +ℤ-*ℤ, *ℤ-neg_ℤ}
use Rattle.gic_model.specs.Sums.{sum_of}
use Rattle.gic_grounds.specs.VariedCurrent.{cut_current}

-- a cut current is no greater, unless it is cut at the lower end
cut_low : (a : ℤ) → (cut_current a ≤ℤ a) ⊎ (cut_current a ≤ℤ neg_ℤ (pos (2 ^ 61)))
cut_low (pos n) = inl (omega (arith, ints, clamps))
cut_low (negsuc n) = ⊎_elim (λ few. inl (omega (arith, ints, clamps, few))) (λ many. inr (omega (arith, ints, clamps, many))) (cases_lt n (2 ^ 61))

-- and no less, unless it is cut at the upper end
cut_high : (a : ℤ) → (a ≤ℤ cut_current a) ⊎ (pos (2 ^ 61) ≤ℤ cut_current a)
cut_high (negsuc n) = inl (omega (arith, ints, clamps))
cut_high (pos n) = ⊎_elim (λ few. inl (omega (arith, ints, clamps, few))) (λ many. inr (omega (arith, ints, clamps, many))) (cases_lt n (2 ^ 61))

-- c times a quotient, in units of `one`
thousands_out : (c one : ℕ) (z : ℤ) → (pos c *ℤ z) *ℤ pos one ≡ z *ℤ pos (c * one)
thousands_out c one z = same_in _ _ (simp (up-*ℤ, down-*ℤ) (omega arith))

-- ten off an end
ten_off : (e : ℤ) (n : ℕ) → (e -ℤ pos 10) *ℤ pos n ≡ e *ℤ pos n -ℤ pos (n * 10)
ten_off e n =
    let turned = *ℤ_comm (e -ℤ pos 10) (pos n) in
    let split = *ℤ--ℤ (pos n) e (pos 10) in
    let back = *ℤ_comm e (pos n) in
    omega (arith, linear)

-- over plain numbers: where z, rounded down by c, isn't cut, what is at most 9 c above z is at most ten above that
low_rounded : (all z f e : ℤ) (c one : ℕ) → all ≤ℤ (z *ℤ pos one +ℤ pos (9 * (c * one))) → z <ℤ (pos c *ℤ f +ℤ pos c) → f ≤ℤ e → all ≤ℤ ((e +ℤ pos 10) *ℤ pos (c * one))
low_rounded all z f e c one near floor more =
    let below = ≤ℤ-times z (pos c *ℤ f +ℤ pos c) one (omega (arith, linear)) in
    let split = +ℤ-*ℤ (pos c *ℤ f) (pos c) (pos one) in
    let out = thousands_out c one f in
    let up_to = ≤ℤ-times f e (c * one) more in
    let parts = +ℤ-*ℤ e (pos 10) (pos (c * one)) in
    omega (arith, linear)

-- and where it is rounded up, what is at most 9 c below z is at most ten below that
high_rounded : (all z g e : ℤ) (c one : ℕ) → (z *ℤ pos one) ≤ℤ (all +ℤ pos (9 * (c * one))) → (pos c *ℤ g) <ℤ (z +ℤ pos c) → e ≤ℤ g → ((e -ℤ pos 10) *ℤ pos (c * one)) ≤ℤ all
high_rounded all z g e c one near ceil less =
    let below = ≤ℤ-times (pos c *ℤ g) (z +ℤ pos c) one (omega (arith, linear)) in
    let split = +ℤ-*ℤ z (pos c) (pos one) in
    let out = thousands_out c one g in
    let up_to = ≤ℤ-times e g (c * one) less in
    let parts = ten_off e (c * one) in
    omega (arith, linear)

-- where an end is cut at b, what is at most b is not above it
low_cut : (all e : ℤ) (b n : ℕ) → all ≤ℤ pos (b * n) → pos b ≤ℤ e → all ≤ℤ ((e +ℤ pos 10) *ℤ pos n)
low_cut all e b n most cut =
    let up_to = ≤ℤ-times (pos b) e n cut in
    let parts = +ℤ-*ℤ e (pos 10) (pos n) in
    omega (arith, linear)

-- and what is at least -b, where it is cut at -b
high_cut : (all e : ℤ) (b n : ℕ) → neg_ℤ (pos (b * n)) ≤ℤ all → e ≤ℤ neg_ℤ (pos b) → ((e -ℤ pos 10) *ℤ pos n) ≤ℤ all
high_cut all e b n least cut =
    let up_to = ≤ℤ-times e (neg_ℤ (pos b)) n cut in
    let turned = *ℤ_comm (neg_ℤ (pos b)) (pos n) in
    let minus = *ℤ-neg_ℤ (pos n) (pos b) in
    let parts = ten_off e n in
    omega (arith, linear)

-- an exact low end that is at most the greatest current, and at most nine milliamperes above the certified one, is at most ten above the end that is told
pub low_within_ten : (all z : ℤ) (one : ℕ) → all ≤ℤ pos (2 ^ 61 * (1000000 * one)) → all ≤ℤ (z *ℤ pos one +ℤ pos (9 * (1000000 * one))) →
    all ≤ℤ ((cut_current (floor_div z (pos 1000000)) +ℤ pos 10) *ℤ pos (1000000 * one))
low_within_ten all z one most near = ⊎_elim
    (λ plain. low_rounded all z (floor_div z (pos 1000000)) (cut_current (floor_div z (pos 1000000))) 1000000 one near (floor_above z 1000000 (omega arith)) plain)
    (λ cut. low_cut all (cut_current (floor_div z (pos 1000000))) (2 ^ 61) (1000000 * one) most cut)
    (cut_high (floor_div z (pos 1000000)))

-- and so is a high end, either way
pub high_within_ten : (all z : ℤ) (one : ℕ) → neg_ℤ (pos (2 ^ 61 * (1000000 * one))) ≤ℤ all → (z *ℤ pos one) ≤ℤ (all +ℤ pos (9 * (1000000 * one))) →
    ((cut_current (ceil_div z (pos 1000000)) -ℤ pos 10) *ℤ pos (1000000 * one)) ≤ℤ all
high_within_ten all z one least near = ⊎_elim
    (λ plain. high_rounded all z (ceil_div z (pos 1000000)) (cut_current (ceil_div z (pos 1000000))) 1000000 one near (ceil_below z 1000000 (omega arith)) plain)
    (λ cut. high_cut all (cut_current (ceil_div z (pos 1000000))) (2 ^ 61) (1000000 * one) least cut)
    (cut_low (ceil_div z (pos 1000000)))

-- where a unit of currents is nothing, what is at most b units is not above 0 of them
pub low_of_nothing : (all e : ℤ) (b n : ℕ) → n ≡ 0 → all ≤ℤ pos (b * n) → all ≤ℤ (e *ℤ pos n)
low_of_nothing all e b n none most =
    let product : b * n ≡ b * 0 = ap (λ k. b * k) none in
    let zeroed : e *ℤ pos n ≡ pos 0 = ap (λ k. e *ℤ pos k) none ∙ *ℤ-zero e in
    let nothing : b * n ≡ 0 = omega (arith, product) in
    omega (arith, linear)

-- either way
pub high_of_nothing : (all e : ℤ) (b n : ℕ) → n ≡ 0 → neg_ℤ (pos (b * n)) ≤ℤ all → (e *ℤ pos n) ≤ℤ all
high_of_nothing all e b n none least =
    let product : b * n ≡ b * 0 = ap (λ k. b * k) none in
    let zeroed : e *ℤ pos n ≡ pos 0 = ap (λ k. e *ℤ pos k) none ∙ *ℤ-zero e in
    let nothing : b * n ≡ 0 = omega (arith, product) in
    omega (arith, linear)

-- what m times is k heights below 0 is not above it, since a height is not below 0
pub part_low : (m k : ℕ) (z top : ℤ) → 0 < m → pos m *ℤ z ≡ neg_ℤ (pos k *ℤ int_max top (pos 0)) → z ≤ℤ pos 0
part_low m k z top some is =
    let not_below : pos 0 ≤ℤ int_max top (pos 0) = omega (arith, linear, clamps) in
    let times = *ℤ-≤ℤ k (pos 0) (int_max top (pos 0)) not_below in
    let none = *ℤ-zero (pos k) in
    let nothing = *ℤ-zero (pos m) in
    ≤ℤ-from_*ℤ m z (pos 0) some (omega (arith, linear))

-- and the other way round
pub part_high : (m k : ℕ) (z bottom : ℤ) → 0 < m → pos m *ℤ z ≡ neg_ℤ (pos k *ℤ int_min bottom (pos 0)) → pos 0 ≤ℤ z
part_high m k z bottom some is =
    let not_above : int_min bottom (pos 0) ≤ℤ pos 0 = omega (arith, linear, clamps) in
    let times = *ℤ-≤ℤ k (int_min bottom (pos 0)) (pos 0) not_above in
    let none = *ℤ-zero (pos k) in
    let nothing = *ℤ-zero (pos m) in
    ≤ℤ-from_*ℤ m (pos 0) z some (omega (arith, linear))

-- terms that are not above 0 add up to nothing above it
pub sum_not_above : {X : Type 0} (f : X → ℤ) (xs : List X) → AllByRecursion (λ x. f x ≤ℤ pos 0) xs → sum_of f xs ≤ℤ pos 0
sum_not_above f [] h = omega (arith, linear)
sum_not_above f (x ∷ xs) h =
    let here = h.0 in
    let rest = sum_not_above f xs h.1 in
    omega (arith, linear)

-- and terms that are not below
pub sum_not_below : {X : Type 0} (f : X → ℤ) (xs : List X) → AllByRecursion (λ x. pos 0 ≤ℤ f x) xs → pos 0 ≤ℤ sum_of f xs
sum_not_below f [] h = omega (arith, linear)
sum_not_below f (x ∷ xs) h =
    let here = h.0 in
    let rest = sum_not_below f xs h.1 in
    omega (arith, linear)

-- b milliamperes in units of which c make a nanoampere, over the denominator twice
scaled_most : (b times h d c : ℕ) → times * (3 * h * d) ≡ c * d → d * (times * (b * (3000000 * h * d))) ≡ b * (1000000 * (c * (d * d)))
scaled_most b times h d c is =
    let more : b * (1000000 * (d * (times * (3 * h * d)))) ≡ b * (1000000 * (d * (c * d))) = ap (λ (n : ℕ). b * (1000000 * (d * n))) is in
    omega (arith, more)

-- a weighted current whose number is at most b milliamperes is at most as much in these units
pub own_most : (b times h d c : ℕ) (z : ℤ) → unsigned_abs z ≤ b * (3000000 * h * d) → times * (3 * h * d) ≡ c * d →
    (pos d *ℤ (pos times *ℤ z)) ≤ℤ pos (b * (1000000 * (c * (d * d))))
own_most b times h d c z most is =
    let top : z ≤ℤ pos (b * (3000000 * h * d)) = omega (arith, ints, most) in
    let once = *ℤ-≤ℤ times z (pos (b * (3000000 * h * d))) top in
    let twice = *ℤ-≤ℤ d (pos times *ℤ z) (pos (times * (b * (3000000 * h * d)))) once in
    subst (λ (n : ℕ). (pos d *ℤ (pos times *ℤ z)) ≤ℤ pos n) (scaled_most b times h d c is) twice

-- nor below -b
pub own_least : (b times h d c : ℕ) (z : ℤ) → unsigned_abs z ≤ b * (3000000 * h * d) → times * (3 * h * d) ≡ c * d →
    neg_ℤ (pos (b * (1000000 * (c * (d * d))))) ≤ℤ (pos d *ℤ (pos times *ℤ z))
own_least b times h d c z most is =
    let top : neg_ℤ z ≤ℤ pos (b * (3000000 * h * d)) = omega (arith, ints, most) in
    let once = *ℤ-≤ℤ times (neg_ℤ z) (pos (b * (3000000 * h * d))) top in
    let twice = *ℤ-≤ℤ d (pos times *ℤ neg_ℤ z) (pos (times * (b * (3000000 * h * d)))) once in
    let inner = ap (λ y. pos d *ℤ y) (*ℤ-neg_ℤ (pos times) z) in
    let outer = *ℤ-neg_ℤ (pos d) (pos times *ℤ z) in
    let up_to = subst (λ (n : ℕ). (pos d *ℤ (pos times *ℤ neg_ℤ z)) ≤ℤ pos n) (scaled_most b times h d c is) twice in
    omega (arith, linear)
