-- The quotient rounded up, from the one rounded down and what is left.
use Rattle.std.proofs.Common.{arith, ◌≡◌, ℕ, zero, suc, ◌+◌, ◌*◌, ◌/◌, ◌%◌, ◌<◌, ◌≤◌, ap, sym, ◌∙◌, ⊎_elim, ℤ, pos, negsuc, neg_ℤ, ◌+ℤ◌, refl, SFits}
use Rattle.std.proofs.lemmas.Nat.{div-mul-add, mod-mul-add, div-add-mod', mod_below}
use Rattle.std.proofs.Math.Nat.{le-mul_of_pos_right, div-le_self}
use Rattle.std.proofs.lemmas.Bool.{cases_lt}
use Rattle.std.specs.Int.{w128}
use Rattle.std.specs.Int.Signed.{mag}
use Rattle.std.proofs.lemmas.Int.{ints}
use Rattle.gic_fixed.specs.Rounding.{ceil_div}

next_is : (k d : ℕ) → suc k ≡ k / d * d + (k % d + 1)
next_is k d = omega (arith, div-add-mod' k d)

next_same : (k d : ℕ) → k % d + 1 < d → suc k / d ≡ k / d
next_same k d h = ap (λ n. n / d) (next_is k d) ∙ div-mul-add (k / d) d (k % d + 1) h

next_rest : (k d : ℕ) → k % d + 1 < d → suc k % d ≡ k % d + 1
next_rest k d h = ap (λ n. n % d) (next_is k d) ∙ mod-mul-add (k / d) d (k % d + 1) h

next_turn : (k d : ℕ) → k % d + 1 ≡ d → suc k ≡ suc (k / d) * d + 0
next_turn k d h = omega (arith, div-add-mod' k d)

next_more : (k d : ℕ) → 0 < d → k % d + 1 ≡ d → suc k / d ≡ suc (k / d)
next_more k d some h = ap (λ n. n / d) (next_turn k d h) ∙ div-mul-add (suc (k / d)) d 0 some

next_none : (k d : ℕ) → 0 < d → k % d + 1 ≡ d → suc k % d ≡ 0
next_none k d some h = ap (λ n. n % d) (next_turn k d h) ∙ mod-mul-add (suc (k / d)) d 0 some

below_same : (m d : ℕ) → 0 < d → m % d + 1 ≡ d → ceil_div (negsuc m) (pos d) ≡ negsuc (m / d)
below_same m d some h = ap (λ k. neg_ℤ (pos k)) (next_more m d some h)

below_more : (m d : ℕ) → m % d + 1 < d → ceil_div (negsuc m) (pos d) ≡ neg_ℤ (pos (m / d))
below_more m d h = ap (λ k. neg_ℤ (pos k)) (next_same m d h)

turns : (k d : ℕ) → 0 < d → suc k % d ≡ 0 → k % d + 1 ≡ d
turns k d some h = ⊎_elim (λ l. absurd (omega (arith, next_rest k d l))) (λ g. omega (arith, mod_below k d some)) (cases_lt (k % d + 1) d)

same : (m d : ℕ) → 0 < d → m % d ≡ 0 → ceil_div (pos m) (pos d) ≡ pos (m / d)
same zero d some h = let e : 0 / d ≡ 0 = omega arith in ap (λ k. neg_ℤ (pos k)) e ∙ sym (ap pos e)
same (suc k) d some h = ap pos (sym (next_more k d some (turns k d some h)))

more : (m d : ℕ) → 0 < d → 0 < m % d → ceil_div (pos m) (pos d) ≡ pos (m / d + 1)
more zero d some h = absurd (omega arith)
more (suc k) d some h = ⊎_elim (λ l. ap pos (omega (arith, next_same k d l))) (λ g. absurd (omega (arith, next_none k d some (omega (arith, mod_below k d some))))) (cases_lt (k % d + 1) d)

-- the quotient of a number that is no multiple of the divisor is below the number
space_above : (n d : ℕ) → 0 < d → 0 < n % d → n / d + 1 ≤ n
space_above n d some rest =
    let more : n / d ≤ n / d * d = le-mul_of_pos_right (n / d) some in
    omega (arith, div-add-mod' n d)

-- a number z: the quotient q of its depth by d and what is left, r; what is left over where z is a multiple of d, over; and z's quotient rounded down, x
pub record IsDivided (z x : ℤ) (d q r over : ℕ) : Type 0 where
  pub some : 0 < d
  pub above : (n : ℕ) → z ≡ pos n → (q ≡ n / d) × (r ≡ n % d) × (over ≡ 0) × (x ≡ pos q)
  pub below : (n : ℕ) → z ≡ negsuc n → (q ≡ n / d) × (r ≡ n % d) × (over + 1 ≡ d) × (x ≡ negsuc q)

-- from the clauses of callees, which have z as y: `to_z w128 (of_z w128 z)`
pub is_divided : (z : ℤ) {y x : ℤ} {d q r over m : ℕ} → y ≡ z → 0 < d →
    (q ≡ m / d) × (r ≡ m % d) →
    ((n : ℕ) → y ≡ pos n → m ≡ n) × ((n : ℕ) → y ≡ negsuc n → m ≡ n) →
    ((n : ℕ) → y ≡ pos n → over ≡ 0) × ((n : ℕ) → y ≡ negsuc n → over + 1 ≡ d) →
    ((n : ℕ) → y ≡ pos n → x ≡ pos q) × ((n : ℕ) → y ≡ negsuc n → x ≡ negsuc q) →
    IsDivided z x d q r over
is_divided z {d = d} kept some (whole, rest) (deep, deep_below) (none, all) (low, low_below) =
    record {
      some = some;
      above = λ n e. let at = deep n (kept ∙ e) in (whole ∙ ap (λ k. k / d) at, rest ∙ ap (λ k. k % d) at, none n (kept ∙ e), low n (kept ∙ e));
      below = λ n e. let at = deep_below n (kept ∙ e) in (whole ∙ ap (λ k. k / d) at, rest ∙ ap (λ k. k % d) at, all n (kept ∙ e), low_below n (kept ∙ e));
    }

-- rounded up, the quotient of a multiple is that rounded down
pub for_multiple : (z x : ℤ) (d q r over : ℕ) → IsDivided z x d q r over → r ≡ over → x ≡ ceil_div z (pos d)
for_multiple (pos n) x d q r over is h =
    let (whole, rest, none, low) = is.above n refl in
    low ∙ ap pos whole ∙ sym (same n d is.some (omega (arith, rest, none, h)))
for_multiple (negsuc n) x d q r over is h =
    let (whole, rest, all, low) = is.below n refl in
    low ∙ ap negsuc whole ∙ sym (below_same n d is.some (omega (arith, rest, all, h)))

some_left : (n d r : ℕ) → r ≡ n % d → (r ≡ 0 → ⊥) → 0 < n % d
some_left n d r rest h = ⊎_elim (λ l. absurd (h (omega (arith, rest)))) (λ g. omega arith) (cases_lt (n % d) 1)

-- of any other number it is one more
pub for_others : (z x y : ℤ) (d q r over : ℕ) → IsDivided z x d q r over → (r ≡ over → ⊥) → y ≡ x +ℤ pos 1 → y ≡ ceil_div z (pos d)
for_others (pos n) x y d q r over is h ye =
    let (whole, rest, none, low) = is.above n refl in
    let next : y ≡ pos (q + 1) = omega (arith, ints, ye, low) in
    next ∙ ap (λ k. pos (k + 1)) whole ∙ sym (more n d is.some (some_left n d r rest (λ e. h (e ∙ sym none))))
for_others (negsuc n) x y d q r over is h ye =
    let (whole, rest, all, low) = is.below n refl in
    let less : n % d + 1 < d = ⊎_elim (λ l. l) (λ g. absurd (h (omega (arith, rest, all, mod_below n d is.some)))) (cases_lt (n % d + 1) d) in
    let next : y ≡ neg_ℤ (pos q) = omega (arith, ints, ye, low) in
    next ∙ ap (λ k. neg_ℤ (pos k)) whole ∙ sym (below_more n d less)

one_above : (q : ℕ) → mag (negsuc q +ℤ pos 1) ≤ q
one_above zero = omega arith
one_above (suc q) = let next : negsuc (suc q) +ℤ pos 1 ≡ negsuc q = omega (arith, ints) in omega (arith, ap mag next)

-- one more than the quotient of what is no multiple fits into 128 bits
pub for_space : (z x : ℤ) (d q r over : ℕ) → IsDivided z x d q r over → (r ≡ over → ⊥) → SFits w128 z → SFits w128 (x +ℤ pos 1)
for_space (pos n) x d q r over is h fits =
    let (whole, rest, none, low) = is.above n refl in
    let next : x +ℤ pos 1 ≡ pos (q + 1) = omega (arith, ints, low) in
    record { sfits = omega (arith, ap mag next, whole, fits.sfits, space_above n d is.some (some_left n d r rest (λ e. h (e ∙ sym none)))) }
for_space (negsuc n) x d q r over is h fits =
    let (whole, rest, all, low) = is.below n refl in
    record { sfits = omega (arith, ints, ap (λ k. mag (k +ℤ pos 1)) low, one_above q, whole, fits.sfits, div-le_self n d) }
