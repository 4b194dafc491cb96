-- A quotient by a product, taken in parts that fit.
use Rattle.std.proofs.Common.{◌≡◌, ℕ, ◌+◌, ◌-◌, ◌*◌, ◌^◌, ◌<◌, ◌≤◌, ℤ, pos, ◌+ℤ◌, ◌-ℤ◌, ◌*ℤ◌, ◌≤ℤ◌, neg_ℤ, unsigned_abs, to_z, of_z, arith, ap, ap₂, subst, sym, refl, ◌∙◌}
use Rattle.std.proofs.lemmas.Int.{ints, clamps, unsigned_abs-mul, fits_signed_from_abs, to_z-of_z}
use Rattle.std.proofs.Math.Nat.{mul-le-mul, mul-le-mul_left, mul-le-mul_right}
use Rattle.std.specs.Int.{w128, int_div_euclid, int_rem_euclid, int_min, int_max}
use Rattle.std.specs.Prelude.{FitsSigned}
use Rattle.gic_fixed.specs.Encloses.{IsWithin}
use Rattle.gic_fixed.specs.Ends.{Ends}
use Rattle.gic_fixed.specs.Rounding.{floor_div, ceil_div}
use Rattle.gic_fixed.proofs.Integers.{linear, *ℤ-+ℤ, *ℤ-neg_ℤ, *ℤ_left_comm, *ℤ-≤ℤ, abs-neg_ℤ}
use Rattle.gic_fixed.proofs.Divisions.{floor_below, floor_above, floor_is, floor_ge, floor_le, floor-floor, neg-neg, positive_product, quotient_rest, rest_within}
use Rattle.gic_varied.specs.Enclosure.{varied_ends, product_ends, stray_ends}
use Rattle.gic_grounds.specs.declared.unit.TheConstants.{MOST_UNITS}
use Rattle.gic_grounds.specs.Varying.{most_adjoint, most_lift}
use Rattle.gic_grounds.proofs.NodeLists.{floor_small}

module _ (factor divisor : ℕ) (number : ℤ) (some : 0 < divisor) where
  -- the quotient of the number
  abbrev whole : ℤ
  whole = int_div_euclid number (pos divisor)

  -- its rest
  abbrev rest : ℤ
  rest = int_rem_euclid number (pos divisor)

  -- the factor times the rest, over the divisor
  abbrev share : ℤ
  share = int_div_euclid (pos factor *ℤ rest) (pos divisor)

  -- the product in parts
  product_parts : pos factor *ℤ number ≡ pos divisor *ℤ (pos factor *ℤ whole) +ℤ pos factor *ℤ rest
  product_parts =
      ap (λ z. pos factor *ℤ z) (quotient_rest number divisor some)
      ∙ *ℤ-+ℤ (pos factor) (pos divisor *ℤ whole) rest
      ∙ ap (λ z. z +ℤ pos factor *ℤ rest) (*ℤ_left_comm (pos factor) (pos divisor) whole)

  -- the two parts make up the quotient of the product
  parts_are : floor_div (pos factor *ℤ number) (pos divisor) ≡ pos factor *ℤ whole +ℤ share
  parts_are =
      let parts = product_parts in
      let sum = *ℤ-+ℤ (pos divisor) (pos factor *ℤ whole) share in
      let below = floor_below (pos factor *ℤ rest) divisor some in
      let above = floor_above (pos factor *ℤ rest) divisor some in
      floor_is (pos factor *ℤ number) divisor (pos factor *ℤ whole +ℤ share) some (omega (arith, linear)) (omega (arith, linear))

  -- so is the quotient by a further unit
  pub in_parts : (unit : ℕ) → floor_div (pos factor *ℤ whole +ℤ share) (pos unit) ≡ floor_div (pos factor *ℤ number) (pos (divisor * unit))
  in_parts unit = ap (λ z. floor_div z (pos unit)) (sym parts_are) ∙ floor-floor (pos factor *ℤ number) divisor unit

  -- the quotient of the number is no further from 0 than the number and one divisor
  whole_times : unsigned_abs whole * divisor ≤ unsigned_abs number + divisor
  whole_times =
      let below = floor_below number divisor some in
      let above = floor_above number divisor some in
      let times = unsigned_abs-mul (pos divisor) whole in
      let near : unsigned_abs (pos divisor *ℤ whole) ≤ unsigned_abs number + divisor = omega (arith, ints, below, above) in
      omega (arith, times, near)

  -- so the first part is within so much
  pub whole_within : (times most : ℕ) → factor ≤ times * divisor → unsigned_abs number ≤ most →
      unsigned_abs (pos factor *ℤ whole) ≤ times * (most + divisor)
  whole_within times most few small =
      let size = unsigned_abs-mul (pos factor) whole in
      let more : factor * unsigned_abs whole ≤ times * divisor * unsigned_abs whole = mul-le-mul_right (unsigned_abs whole) few in
      let at_most : times * (unsigned_abs whole * divisor) ≤ times * (most + divisor) = mul-le-mul_left times
      (omega (arith, whole_times, small)) in
      omega (arith, size, more, at_most)

  -- and the second is from 0 to the factor
  pub rest_times_within : (pos 0 ≤ℤ (pos factor *ℤ rest)) × ((pos factor *ℤ rest) ≤ℤ pos (factor * divisor))
  rest_times_within =
      let rest_is = rest_within number divisor some in
      let low = *ℤ-≤ℤ factor (pos 0) rest rest_is.0 in
      let high = *ℤ-≤ℤ factor rest (pos divisor) (omega (arith, ints, rest_is.1)) in
      (omega (arith, ints, low), omega (arith, ints, high))

  -- so it is from 0 to the factor when it is divided
  pub share_within : (pos 0 ≤ℤ share) × (share ≤ℤ pos factor)
  share_within =
      let bounds = rest_times_within in
      let below = floor_below (pos factor *ℤ rest) divisor some in
      let zero_times : pos divisor *ℤ pos 0 ≡ pos (divisor * 0) = refl in
      let least = floor_ge (pos factor *ℤ rest) divisor (pos 0) some (omega (arith, ints, bounds.0, zero_times)) in
      let most = floor_le (pos factor *ℤ rest) divisor (pos factor) some (omega (arith, ints, bounds.1, some)) in
      (least, most)

-- for numbers and factors of stray powers all parts fit
pub fits_whole : (factor divisor : ℕ) (number : ℤ) → 0 < divisor → divisor ≤ 10 ^ 18 → factor ≤ 3000 * divisor →
    unsigned_abs number ≤ 5 * 2 ^ 113 →
    FitsSigned w128 (pos factor *ℤ int_div_euclid number (pos divisor))
fits_whole factor divisor number some least few small =
    fits_signed_from_abs w128 (pos factor *ℤ int_div_euclid number (pos divisor))
    (omega (arith, least, whole_within factor divisor number some 3000 (5 * 2 ^ 113) few small))

-- the product with the rest too
pub fits_rest : (factor divisor : ℕ) (number : ℤ) → 0 < divisor → divisor ≤ 10 ^ 18 → factor ≤ 3 * 10 ^ 15 →
    FitsSigned w128 (pos factor *ℤ int_rem_euclid number (pos divisor))
fits_rest factor divisor number some least few =
    let bounds = rest_times_within factor divisor number some in
    let product : factor * divisor ≤ 3 * 10 ^ 15 * 10 ^ 18 = mul-le-mul few least in
    fits_signed_from_abs w128 (pos factor *ℤ int_rem_euclid number (pos divisor)) (omega (arith, ints, bounds.0, bounds.1, product))

-- the sum of both is within 2^127
sum_within : (factor divisor : ℕ) (number : ℤ) → 0 < divisor → divisor ≤ 10 ^ 18 → factor ≤ 3000 * divisor → factor ≤ 3 * 10 ^ 15 →
    unsigned_abs number ≤ 5 * 2 ^ 113 →
    unsigned_abs
    (pos factor *ℤ int_div_euclid number (pos divisor) +ℤ int_div_euclid (pos factor *ℤ int_rem_euclid number (pos divisor)) (pos divisor)) < 2 ^ 127
sum_within factor divisor number some least few most small =
    let first = whole_within factor divisor number some 3000 (5 * 2 ^ 113) few small in
    let second = share_within factor divisor number some in
    omega (arith, ints, least, most, first, second.0, second.1)

-- so it fits
pub fits_sum : (factor divisor : ℕ) (number : ℤ) → 0 < divisor → divisor ≤ 10 ^ 18 → factor ≤ 3000 * divisor → factor ≤ 3 * 10 ^ 15 →
    unsigned_abs number ≤ 5 * 2 ^ 113 →
    FitsSigned w128
    (pos factor *ℤ int_div_euclid number (pos divisor) +ℤ int_div_euclid (pos factor *ℤ int_rem_euclid number (pos divisor)) (pos divisor))
fits_sum factor divisor number some least few most small =
    fits_signed_from_abs w128
    (pos factor *ℤ int_div_euclid number (pos divisor) +ℤ int_div_euclid (pos factor *ℤ int_rem_euclid number (pos divisor)) (pos divisor))
    (sum_within factor divisor number some least few most small)

-- and the quotient by a unit that isn't small is within 2^105
pub quotient_within : (factor divisor unit : ℕ) (number : ℤ) → 0 < divisor → divisor ≤ 10 ^ 18 → factor ≤ 3000 * divisor →
    factor ≤ 3 * 10 ^ 15 → 2 ^ 22 ≤ unit → unsigned_abs number ≤ 5 * 2 ^ 113 →
    unsigned_abs
    (floor_div (pos factor *ℤ int_div_euclid number (pos divisor) +ℤ int_div_euclid (pos factor *ℤ int_rem_euclid number (pos divisor)) (pos divisor)) (pos unit)) ≤ 2 ^ 105
quotient_within factor divisor unit number some least few most large small =
    let sum = pos factor *ℤ int_div_euclid number (pos divisor) +ℤ int_div_euclid (pos factor *ℤ int_rem_euclid number (pos divisor))
    (pos divisor) in
    let below = sum_within factor divisor number some least few most small in
    let enough : 2 ^ 22 * 2 ^ 105 ≤ unit * 2 ^ 105 = mul-le-mul_right (2 ^ 105) large in
    floor_small sum unit (2 ^ 105) (omega (arith, large)) (omega (arith, below, enough))

-- products of a varied and an adjoint potential
pub product_within : (a b : ℤ) → unsigned_abs a ≤ 17 * 2 ^ 54 → unsigned_abs b ≤ most_adjoint → unsigned_abs (a *ℤ b) ≤ 5 * 2 ^ 113
product_within a b one other =
    let size = unsigned_abs-mul a b in
    let product : unsigned_abs a * unsigned_abs b ≤ 17 * 2 ^ 54 * most_adjoint = mul-le-mul one other in
    omega (arith, size, product)

-- they fit
pub product_fits : (a b : ℤ) → unsigned_abs a ≤ 17 * 2 ^ 54 → unsigned_abs b ≤ most_adjoint → FitsSigned w128 (a *ℤ b)
product_fits a b one other = fits_signed_from_abs w128 (a *ℤ b) (omega (arith, product_within a b one other))

-- the lesser of two numbers within a bound is within it
min_within : (a b : ℤ) (bound : ℕ) → unsigned_abs a ≤ bound → unsigned_abs b ≤ bound → unsigned_abs (int_min a b) ≤ bound
min_within a b bound one other = omega (arith, ints, clamps, one, other)

-- so is the greater
max_within : (a b : ℤ) (bound : ℕ) → unsigned_abs a ≤ bound → unsigned_abs b ≤ bound → unsigned_abs (int_max a b) ≤ bound
max_within a b bound one other = omega (arith, ints, clamps, one, other)

-- the number that the code holds
abbrev pub held : ℤ → ℤ
held z = to_z w128 (of_z w128 z)

-- is that number where this fits
pub held_is : (z : ℤ) → unsigned_abs z < 2 ^ 127 → held z ≡ z
held_is z small = to_z-of_z w128 z (fits_signed_from_abs w128 z small)

-- with its sign turned too
pub turned_is : (z : ℤ) → unsigned_abs z < 2 ^ 127 → held (pos 0 -ℤ held z) ≡ neg_ℤ z
turned_is z small =
    let turned : pos 0 -ℤ z ≡ neg_ℤ z = omega (arith, ints) in
    ap (λ (x : ℤ). held (pos 0 -ℤ x)) (held_is z small) ∙ ap (λ (x : ℤ). held x) turned
    ∙ held_is (neg_ℤ z) (omega (arith, abs-neg_ℤ z, small))

-- two ends
abbrev pub both_ends : ℤ → ℤ → Ends
both_ends low high = record { low = low; high = high }

-- the ends of a varied potential, as the code computes them
pub varied_is : (reference lowering raising : Ends) → unsigned_abs reference.low ≤ MOST_UNITS → unsigned_abs reference.high ≤ MOST_UNITS →
    unsigned_abs lowering.high ≤ most_lift → unsigned_abs raising.high ≤ most_lift →
    both_ends (held (held reference.low -ℤ held lowering.high)) (held (held reference.high +ℤ held raising.high)) ≡ varied_ends reference
    lowering raising
varied_is reference lowering raising low high lower raise =
    let less : held (held reference.low -ℤ held lowering.high) ≡ reference.low -ℤ lowering.high =
    ap₂ (λ (x y : ℤ). held (x -ℤ y)) (held_is reference.low (omega (arith, low))) (held_is lowering.high (omega (arith, lower)))
    ∙ held_is (reference.low -ℤ lowering.high) (omega (arith, ints, low, lower)) in
    let more : held (held reference.high +ℤ held raising.high) ≡ reference.high +ℤ raising.high =
    ap₂ (λ (x y : ℤ). held (x +ℤ y)) (held_is reference.high (omega (arith, high))) (held_is raising.high (omega (arith, raise)))
    ∙ held_is (reference.high +ℤ raising.high) (omega (arith, ints, high, raise)) in
    ap₂ both_ends less more

-- a product as the code computes it
product_is : (a b : ℤ) → unsigned_abs a ≤ 17 * 2 ^ 54 → unsigned_abs b ≤ most_adjoint → held (held a *ℤ held b) ≡ a *ℤ b
product_is a b one other =
    ap₂ (λ (x y : ℤ). held (x *ℤ y)) (held_is a (omega (arith, one))) (held_is b (omega (arith, other)))
    ∙ held_is (a *ℤ b) (omega (arith, product_within a b one other))

-- the lesser of two numbers, as the code computes it
least_is : (a b x y m : ℤ) → unsigned_abs a ≤ 5 * 2 ^ 113 → unsigned_abs b ≤ 5 * 2 ^ 113 → x ≡ a → y ≡ b → m ≡ int_min x y →
    held m ≡ int_min a b
least_is a b x y m one other is_x is_y is =
    ap (λ (z : ℤ). held z) (is ∙ ap₂ (λ (p q : ℤ). int_min p q) is_x is_y)
    ∙ held_is (int_min a b) (omega (arith, min_within a b (5 * 2 ^ 113) one other))

-- the greater
greatest_is : (a b x y m : ℤ) → unsigned_abs a ≤ 5 * 2 ^ 113 → unsigned_abs b ≤ 5 * 2 ^ 113 → x ≡ a → y ≡ b → m ≡ int_max x y →
    held m ≡ int_max a b
greatest_is a b x y m one other is_x is_y is =
    ap (λ (z : ℤ). held z) (is ∙ ap₂ (λ (p q : ℤ). int_max p q) is_x is_y)
    ∙ held_is (int_max a b) (omega (arith, max_within a b (5 * 2 ^ 113) one other))

module _ (one other : Ends) (one_small : IsWithin most_adjoint one.low one.high) (other_small : IsWithin (17 * 2 ^ 54) other.low other.high)
  where
    -- the products of the ends are within a bound
    low_low : unsigned_abs (other.low *ℤ one.low) ≤ 5 * 2 ^ 113
    low_low = product_within other.low one.low other_small.low one_small.low

    -- the same of the high end and the low one
    high_low : unsigned_abs (other.high *ℤ one.low) ≤ 5 * 2 ^ 113
    high_low = product_within other.high one.low other_small.high one_small.low

    -- of the low end and the high one
    low_high : unsigned_abs (other.low *ℤ one.high) ≤ 5 * 2 ^ 113
    low_high = product_within other.low one.high other_small.low one_small.high

    -- of both high ends
    high_high : unsigned_abs (other.high *ℤ one.high) ≤ 5 * 2 ^ 113
    high_high = product_within other.high one.high other_small.high one_small.high

    -- the least of the products of ends
    pub least_product : (m n r : ℤ) → m ≡ int_min (held (held other.low *ℤ held one.low)) (held (held other.high *ℤ held one.low)) →
        n ≡ int_min (held (held other.low *ℤ held one.high)) (held (held other.high *ℤ held one.high)) → r ≡ int_min (held m) (held n) →
        held r ≡ (product_ends one other).low
    least_product m n r is_m is_n is =
        let first = least_is (other.low *ℤ one.low) (other.high *ℤ one.low) (held (held other.low *ℤ held one.low))
        (held (held other.high *ℤ held one.low)) m low_low high_low
        (product_is other.low one.low other_small.low one_small.low) (product_is other.high one.low other_small.high one_small.low)
        is_m in
        let second = least_is (other.low *ℤ one.high) (other.high *ℤ one.high) (held (held other.low *ℤ held one.high))
        (held (held other.high *ℤ held one.high)) n low_high high_high
        (product_is other.low one.high other_small.low one_small.high) (product_is other.high one.high other_small.high one_small.high)
        is_n in
        least_is (int_min (other.low *ℤ one.low) (other.high *ℤ one.low)) (int_min (other.low *ℤ one.high) (other.high *ℤ one.high)) (held m)
        (held n) r
        (min_within (other.low *ℤ one.low) (other.high *ℤ one.low) (5 * 2 ^ 113) low_low high_low)
        (min_within (other.low *ℤ one.high) (other.high *ℤ one.high) (5 * 2 ^ 113) low_high high_high) first second is

    -- the greatest
    pub greatest_product : (m n r : ℤ) → m ≡ int_max (held (held other.low *ℤ held one.low)) (held (held other.high *ℤ held one.low)) →
        n ≡ int_max (held (held other.low *ℤ held one.high)) (held (held other.high *ℤ held one.high)) → r ≡ int_max (held m) (held n) →
        held r ≡ (product_ends one other).high
    greatest_product m n r is_m is_n is =
        let first = greatest_is (other.low *ℤ one.low) (other.high *ℤ one.low) (held (held other.low *ℤ held one.low))
        (held (held other.high *ℤ held one.low)) m low_low high_low
        (product_is other.low one.low other_small.low one_small.low) (product_is other.high one.low other_small.high one_small.low)
        is_m in
        let second = greatest_is (other.low *ℤ one.high) (other.high *ℤ one.high) (held (held other.low *ℤ held one.high))
        (held (held other.high *ℤ held one.high)) n low_high high_high
        (product_is other.low one.high other_small.low one_small.high) (product_is other.high one.high other_small.high one_small.high)
        is_n in
        greatest_is (int_max (other.low *ℤ one.low) (other.high *ℤ one.low)) (int_max (other.low *ℤ one.high) (other.high *ℤ one.high))
        (held m) (held n) r
        (max_within (other.low *ℤ one.low) (other.high *ℤ one.low) (5 * 2 ^ 113) low_low high_low)
        (max_within (other.low *ℤ one.high) (other.high *ℤ one.high) (5 * 2 ^ 113) low_high high_high) first second is

    -- both are within a bound
    pub products_within : IsWithin (5 * 2 ^ 113) (product_ends one other).low (product_ends one other).high
    products_within = record {
      low = min_within (int_min (other.low *ℤ one.low) (other.high *ℤ one.low)) (int_min (other.low *ℤ one.high) (other.high *ℤ one.high))
          (5 * 2 ^ 113)
          (min_within (other.low *ℤ one.low) (other.high *ℤ one.low) (5 * 2 ^ 113) low_low high_low)
          (min_within (other.low *ℤ one.high) (other.high *ℤ one.high) (5 * 2 ^ 113) low_high high_high);
      high = max_within (int_max (other.low *ℤ one.low) (other.high *ℤ one.low)) (int_max (other.low *ℤ one.high) (other.high *ℤ one.high))
          (5 * 2 ^ 113)
          (max_within (other.low *ℤ one.low) (other.high *ℤ one.low) (5 * 2 ^ 113) low_low high_low)
          (max_within (other.low *ℤ one.high) (other.high *ℤ one.high) (5 * 2 ^ 113) low_high high_high);
    }

    -- the one is at most the other
    pub products_ordered : (product_ends one other).low ≤ℤ (product_ends one other).high
    products_ordered =
        ordered (other.low *ℤ one.low) (other.high *ℤ one.low) (int_min (other.low *ℤ one.high) (other.high *ℤ one.high))
        (int_max (other.low *ℤ one.high) (other.high *ℤ one.high))
      where
        ordered : (a b m n : ℤ) → int_min (int_min a b) m ≤ℤ int_max (int_max a b) n
        ordered a b m n =
            let first : int_min (int_min a b) m ≤ℤ int_min a b = omega (arith, ints, clamps) in
            let second : int_min a b ≤ℤ int_max a b = omega (arith, ints, clamps) in
            let third : int_max a b ≤ℤ int_max (int_max a b) n = omega (arith, ints, clamps) in
            omega (arith, linear, first, second, third)

-- the parts of a quotient as the code computes them, from what its calls give
module _ (factor divisor : ℕ) (number f d q r s : ℤ) (some : 0 < divisor) (least : divisor ≤ 10 ^ 18) (few : factor ≤ 3000 * divisor)
    (most : factor ≤ 3 * 10 ^ 15)
    (small : unsigned_abs number ≤ 5 * 2 ^ 113) (is_f : f ≡ pos factor) (is_d : d ≡ pos divisor) where
  -- the factor, as the code holds it
  factor_is : held f ≡ pos factor
  factor_is = ap (λ (z : ℤ). held z) is_f ∙ held_is (pos factor) (omega (arith, most))

  -- the divisor
  divisor_is : held d ≡ pos divisor
  divisor_is = ap (λ (z : ℤ). held z) is_d ∙ held_is (pos divisor) (omega (arith, least))

  -- the number
  number_is : held number ≡ number
  number_is = held_is number (omega (arith, small))

  -- the factor times the quotient of the number
  pub whole_is : q ≡ int_div_euclid (held number) (held d) → held (held f *ℤ held q) ≡ pos factor *ℤ int_div_euclid number (pos divisor)
  whole_is is =
      let size : unsigned_abs (int_div_euclid number (pos divisor)) ≤ 5 * 2 ^ 113 = floor_small number divisor (5 * 2 ^ 113) some
      (omega (arith, small, some)) in
      let same : held q ≡ int_div_euclid number (pos divisor) =
      ap (λ (z : ℤ). held z) (is ∙ ap₂ (λ (x y : ℤ). int_div_euclid x y) number_is divisor_is)
      ∙ held_is (int_div_euclid number (pos divisor)) (omega (arith, size)) in
      ap₂ (λ (x y : ℤ). held (x *ℤ y)) factor_is same
      ∙ to_z-of_z w128 (pos factor *ℤ int_div_euclid number (pos divisor)) (fits_whole factor divisor number some least few small)

  -- the factor times its rest
  rest_is : r ≡ int_rem_euclid (held number) (held d) → held (held f *ℤ held r) ≡ pos factor *ℤ int_rem_euclid number (pos divisor)
  rest_is is =
      let within = rest_within number divisor some in
      let same : held r ≡ int_rem_euclid number (pos divisor) =
      ap (λ (z : ℤ). held z) (is ∙ ap₂ (λ (x y : ℤ). int_rem_euclid x y) number_is divisor_is)
      ∙ held_is (int_rem_euclid number (pos divisor)) (omega (arith, ints, within.0, within.1, least)) in
      ap₂ (λ (x y : ℤ). held (x *ℤ y)) factor_is same
      ∙ to_z-of_z w128 (pos factor *ℤ int_rem_euclid number (pos divisor)) (fits_rest factor divisor number some least most)

  -- that over the divisor
  pub share_is : r ≡ int_rem_euclid (held number) (held d) → s ≡ int_div_euclid (held (held f *ℤ held r)) (held d) →
      held s ≡ int_div_euclid (pos factor *ℤ int_rem_euclid number (pos divisor)) (pos divisor)
  share_is is_r is =
      let within = share_within factor divisor number some in
      ap (λ (z : ℤ). held z) (is ∙ ap₂ (λ (x y : ℤ). int_div_euclid x y) (rest_is is_r) divisor_is)
      ∙ held_is (int_div_euclid (pos factor *ℤ int_rem_euclid number (pos divisor)) (pos divisor))
      (omega (arith, ints, within.0, within.1, most))

-- the whole quotient is within its bound
pub quotient_small : (factor divisor unit : ℕ) (number : ℤ) → 0 < divisor → divisor ≤ 10 ^ 18 → factor ≤ 3000 * divisor →
    factor ≤ 3 * 10 ^ 15 → 2 ^ 22 ≤ unit → unsigned_abs number ≤ 5 * 2 ^ 113 →
    unsigned_abs (floor_div (pos factor *ℤ number) (pos (divisor * unit))) ≤ 2 ^ 105
quotient_small factor divisor unit number some least few most large small =
    subst (λ (z : ℤ). unsigned_abs z ≤ 2 ^ 105) (in_parts factor divisor number some unit)
    (quotient_within factor divisor unit number some least few most large small)

-- and what the code has
pub quotient_is : (factor divisor unit : ℕ) (number w s u t : ℤ) → 0 < divisor → divisor ≤ 10 ^ 18 → factor ≤ 3000 * divisor →
    factor ≤ 3 * 10 ^ 15 → 2 ^ 22 ≤ unit → unit < 2 ^ 64 →
    unsigned_abs number ≤ 5 * 2 ^ 113 →
    w ≡ pos factor *ℤ int_div_euclid number (pos divisor) →
    s ≡ int_div_euclid (pos factor *ℤ int_rem_euclid number (pos divisor)) (pos divisor) →
    u ≡ pos unit → t ≡ int_div_euclid (held (w +ℤ s)) (held u) → held t ≡ floor_div (pos factor *ℤ number) (pos (divisor * unit))
quotient_is factor divisor unit number w s u t some least few most large fits small is_w is_s is_u is =
    let sum : held (w +ℤ s) ≡ pos factor *ℤ int_div_euclid number (pos divisor) +ℤ int_div_euclid
    (pos factor *ℤ int_rem_euclid number (pos divisor)) (pos divisor) =
    ap₂ (λ (x y : ℤ). held (x +ℤ y)) is_w is_s
    ∙ to_z-of_z w128
    (pos factor *ℤ int_div_euclid number (pos divisor) +ℤ int_div_euclid (pos factor *ℤ int_rem_euclid number (pos divisor)) (pos divisor))
    (fits_sum factor divisor number some least few most small) in
    let under : held u ≡ pos unit = ap (λ (z : ℤ). held z) is_u ∙ held_is (pos unit) (omega (arith, fits)) in
    let whole : t ≡ floor_div (pos factor *ℤ number) (pos (divisor * unit)) = is ∙ ap₂ (λ (x y : ℤ). floor_div x y) sum under
    ∙ in_parts factor divisor number some unit in
    ap (λ (z : ℤ). held z) whole
    ∙ held_is (floor_div (pos factor *ℤ number) (pos (divisor * unit)))
    (omega (arith, quotient_small factor divisor unit number some least few most large small))

-- nothing over anything is nothing
zero_over : (d : ℕ) → 0 < d → floor_div (pos 0) (pos d) ≡ pos 0
zero_over d some = floor_is (pos 0) d (pos 0) some (omega (arith, linear)) (omega (arith, linear, some))

-- nothing times anything is nothing
zero_times : (z : ℤ) → pos 0 *ℤ z ≡ pos 0
zero_times z = omega (arith, ints, unsigned_abs-mul (pos 0) z)

-- where a ground has an end of its range, the part of that end is nothing
module _ (paths ohm unit : ℕ) (some : 0 < ohm) (large : 2 ^ 22 ≤ unit) (z : ℤ) where
  -- the factor of a resistance less itself is nothing
  no_factor : paths * 1000000 * (ohm - ohm) ≡ 0
  no_factor =
      let same : ohm - ohm ≡ 0 = omega arith in
      ap (λ (n : ℕ). paths * 1000000 * n) same ∙ omega arith

  -- so is its product
  no_product : pos (paths * 1000000 * (ohm - ohm)) *ℤ z ≡ pos 0
  no_product = ap (λ (n : ℕ). pos n *ℤ z) no_factor ∙ zero_times z

  -- the divisor isn't 0
  over : 0 < ohm * ohm * unit
  over = positive_product (ohm * ohm) unit (positive_product ohm ohm some some) (omega (arith, large))

  -- the quotient is nothing
  nothing_down : floor_div (pos (paths * 1000000 * (ohm - ohm)) *ℤ z) (pos (ohm * ohm * unit)) ≡ pos 0
  nothing_down = ap (λ (x : ℤ). floor_div x (pos (ohm * ohm * unit))) no_product ∙ zero_over (ohm * ohm * unit) over

  -- rounded up too
  nothing_up : ceil_div (pos (paths * 1000000 * (ohm - ohm)) *ℤ z) (pos (ohm * ohm * unit)) ≡ pos 0
  nothing_up =
      ap (λ (x : ℤ). ceil_div x (pos (ohm * ohm * unit))) no_product
      ∙ ap (λ (x : ℤ). neg_ℤ x) (zero_over (ohm * ohm * unit) over)

  -- and with its sign turned
  turned_down : floor_div (neg_ℤ (pos (paths * 1000000 * (ohm - ohm)) *ℤ z)) (pos (ohm * ohm * unit)) ≡ pos 0
  turned_down = ap (λ (x : ℤ). floor_div (neg_ℤ x) (pos (ohm * ohm * unit))) no_product ∙ zero_over (ohm * ohm * unit) over

  -- rounded up too
  turned_up : ceil_div (neg_ℤ (pos (paths * 1000000 * (ohm - ohm)) *ℤ z)) (pos (ohm * ohm * unit)) ≡ pos 0
  turned_up =
      ap (λ (x : ℤ). ceil_div (neg_ℤ x) (pos (ohm * ohm * unit))) no_product
      ∙ ap (λ (x : ℤ). neg_ℤ x) (zero_over (ohm * ohm * unit) over)

-- the low end that the code chooses, at most 0
pub low_end : (low end : ℤ) → unsigned_abs low ≤ 2 ^ 105 → end ≡ int_min (held low) (pos 0) → held end ≡ int_min low (pos 0)
low_end low end within is =
    ap (λ (z : ℤ). held z) (is ∙ ap (λ (z : ℤ). int_min z (pos 0)) (held_is low (omega (arith, within))))
    ∙ held_is (int_min low (pos 0)) (omega (arith, min_within low (pos 0) (2 ^ 105) within (omega arith)))

-- the high end, at least 0
pub high_end : (high end : ℤ) → unsigned_abs high ≤ 2 ^ 105 → end ≡ int_max (held (pos 0 -ℤ held high)) (pos 0) →
    held end ≡ int_max (neg_ℤ high) (pos 0)
high_end high end within is =
    let turned : unsigned_abs (neg_ℤ high) ≤ 2 ^ 105 = omega (arith, abs-neg_ℤ high, within) in
    ap (λ (z : ℤ). held z) (is ∙ ap (λ (z : ℤ). int_max z (pos 0)) (turned_is high (omega (arith, within))))
    ∙ held_is (int_max (neg_ℤ high) (pos 0)) (omega (arith, max_within (neg_ℤ high) (pos 0) (2 ^ 105) turned (omega arith)))

-- both are within the bound of the quotients
pub stray_within : (low high least most : ℤ) → unsigned_abs low ≤ 2 ^ 105 → unsigned_abs high ≤ 2 ^ 105 →
    least ≡ int_min (held low) (pos 0) → most ≡ int_max (held (pos 0 -ℤ held high)) (pos 0) → IsWithin (2 ^ 105) (held least) (held most)
stray_within low high least most below above is_least is_most =
    let turned : unsigned_abs (neg_ℤ high) ≤ 2 ^ 105 = omega (arith, abs-neg_ℤ high, above) in
    record {
      low = subst (λ (z : ℤ). unsigned_abs z ≤ 2 ^ 105) (sym (low_end low least below is_least))
          (min_within low (pos 0) (2 ^ 105) below (omega arith));
      high = subst (λ (z : ℤ). unsigned_abs z ≤ 2 ^ 105) (sym (high_end high most above is_most))
          (max_within (neg_ℤ high) (pos 0) (2 ^ 105) turned (omega arith));
    }

-- the stray power of a ground with its least resistance, from the quotients and the code's choice of ends
module _ (paths least most unit : ℕ) (product : Ends) (paths_seen reach most_seen least_seen : ℕ) (some : 0 < least) (large : 2 ^ 22 ≤ unit)
    (small : IsWithin (5 * 2 ^ 113) product.low product.high)
    (is_paths : paths_seen ≡ paths) (is_reach : reach ≡ most - least) (is_most : most_seen ≡ most) (is_least : least_seen ≡ least) where
  -- the factor, as the code computes it
  factor_seen : paths_seen * 1000000 * reach ≡ paths * 1000000 * (most - least)
  factor_seen = ap₂ (λ (x y : ℕ). x * 1000000 * y) is_paths is_reach

  -- the divisor times the unit
  divisor_seen : most_seen * least_seen * unit ≡ most * least * unit
  divisor_seen = ap₂ (λ (x y : ℕ). x * y * unit) is_most is_least

  -- so the low end is that of the definition
  pub stray_low_at_least : (low end : ℤ) → unsigned_abs low ≤ 2 ^ 105 →
      low ≡ floor_div (pos (paths_seen * 1000000 * reach) *ℤ held (pos 0 -ℤ held product.high)) (pos (most_seen * least_seen * unit)) →
      end ≡ int_min (held low) (pos 0) → held end ≡ (stray_ends (record { least = least; most = most }) paths least unit product).low
  stray_low_at_least low end within is is_end =
      let same : low ≡ floor_div (neg_ℤ (pos (paths * 1000000 * (most - least)) *ℤ product.high)) (pos (most * least * unit)) =
      is
      ∙ ap (λ (z : ℤ). floor_div (pos (paths_seen * 1000000 * reach) *ℤ z) (pos (most_seen * least_seen * unit)))
      (turned_is product.high (omega (arith, small.high)))
      ∙ ap (λ (z : ℤ). floor_div z (pos (most_seen * least_seen * unit))) (*ℤ-neg_ℤ (pos (paths_seen * 1000000 * reach)) product.high)
      ∙ ap₂ (λ (m n : ℕ). floor_div (neg_ℤ (pos m *ℤ product.high)) (pos n)) factor_seen divisor_seen in
      low_end low end within is_end ∙ ap₂ (λ (x y : ℤ). int_min x y) same (sym (nothing_down paths least unit some large product.low))

  -- and the high end
  pub stray_high_at_least : (high end : ℤ) → unsigned_abs high ≤ 2 ^ 105 →
      high ≡ floor_div (pos (paths_seen * 1000000 * reach) *ℤ held product.low) (pos (most_seen * least_seen * unit)) →
      end ≡ int_max (held (pos 0 -ℤ held high)) (pos 0) → held end ≡ (stray_ends (record { least = least; most = most }) paths least unit product).high
  stray_high_at_least high end within is is_end =
      let same : high ≡ floor_div (pos (paths * 1000000 * (most - least)) *ℤ product.low) (pos (most * least * unit)) =
      is
      ∙ ap (λ (z : ℤ). floor_div (pos (paths_seen * 1000000 * reach) *ℤ z) (pos (most_seen * least_seen * unit)))
      (held_is product.low (omega (arith, small.low)))
      ∙ ap₂ (λ (m n : ℕ). floor_div (pos m *ℤ product.low) (pos n)) factor_seen divisor_seen in
      let turned : neg_ℤ high ≡ ceil_div (neg_ℤ (pos (paths * 1000000 * (most - least)) *ℤ product.low)) (pos (most * least * unit)) =
      ap (λ (z : ℤ). neg_ℤ z)
      (same ∙ ap (λ (z : ℤ). floor_div z (pos (most * least * unit))) (sym (neg-neg (pos (paths * 1000000 * (most - least)) *ℤ product.low)))) in
      high_end high end within is_end ∙ ap₂ (λ (x y : ℤ). int_max x y) turned (sym (nothing_up paths least unit some large product.high))

-- which of two numbers comes first doesn't matter to the lesser of them
min_either : (a b : ℤ) → int_min a b ≡ int_min b a
min_either a b = omega (arith, ints, clamps)

-- nor to the greater
max_either : (a b : ℤ) → int_max a b ≡ int_max b a
max_either a b = omega (arith, ints, clamps)

-- the stray power of a ground with its greatest resistance
module _ (paths least most unit : ℕ) (product : Ends) (paths_seen reach least_seen most_seen : ℕ) (some : 0 < most) (large : 2 ^ 22 ≤ unit)
    (small : IsWithin (5 * 2 ^ 113) product.low product.high)
    (is_paths : paths_seen ≡ paths) (is_reach : reach ≡ most - least) (is_least : least_seen ≡ least) (is_most : most_seen ≡ most) where
  -- the factor, as the code computes it
  factor_at_most : paths_seen * 1000000 * reach ≡ paths * 1000000 * (most - least)
  factor_at_most = ap₂ (λ (x y : ℕ). x * 1000000 * y) is_paths is_reach

  -- the divisor times the unit
  divisor_at_most : least_seen * most_seen * unit ≡ least * most * unit
  divisor_at_most = ap₂ (λ (x y : ℕ). x * y * unit) is_least is_most

  -- the low end is that of the definition
  pub stray_low_at_most : (low end : ℤ) → unsigned_abs low ≤ 2 ^ 105 →
      low ≡ floor_div (pos (paths_seen * 1000000 * reach) *ℤ held product.low) (pos (least_seen * most_seen * unit)) →
      end ≡ int_min (held low) (pos 0) → held end ≡ (stray_ends (record { least = least; most = most }) paths most unit product).low
  stray_low_at_most low end within is is_end =
      let same : low ≡ floor_div (pos (paths * 1000000 * (most - least)) *ℤ product.low) (pos (least * most * unit)) =
      is
      ∙ ap (λ (z : ℤ). floor_div (pos (paths_seen * 1000000 * reach) *ℤ z) (pos (least_seen * most_seen * unit)))
      (held_is product.low (omega (arith, small.low)))
      ∙ ap₂ (λ (m n : ℕ). floor_div (pos m *ℤ product.low) (pos n)) factor_at_most divisor_at_most in
      low_end low end within is_end ∙ min_either low (pos 0)
      ∙ ap₂ (λ (x y : ℤ). int_min x y) (sym (turned_down paths most unit some large product.high)) same

  -- and the high end
  pub stray_high_at_most : (high end : ℤ) → unsigned_abs high ≤ 2 ^ 105 →
      high ≡ floor_div (pos (paths_seen * 1000000 * reach) *ℤ held (pos 0 -ℤ held product.high)) (pos (least_seen * most_seen * unit)) →
      end ≡ int_max (held (pos 0 -ℤ held high)) (pos 0) → held end ≡ (stray_ends (record { least = least; most = most }) paths most unit product).high
  stray_high_at_most high end within is is_end =
      let same : high ≡ floor_div (neg_ℤ (pos (paths * 1000000 * (most - least)) *ℤ product.high)) (pos (least * most * unit)) =
      is
      ∙ ap (λ (z : ℤ). floor_div (pos (paths_seen * 1000000 * reach) *ℤ z) (pos (least_seen * most_seen * unit)))
      (turned_is product.high (omega (arith, small.high)))
      ∙ ap (λ (z : ℤ). floor_div z (pos (least_seen * most_seen * unit))) (*ℤ-neg_ℤ (pos (paths_seen * 1000000 * reach)) product.high)
      ∙ ap₂ (λ (m n : ℕ). floor_div (neg_ℤ (pos m *ℤ product.high)) (pos n)) factor_at_most divisor_at_most in
      let turned : neg_ℤ high ≡ ceil_div (pos (paths * 1000000 * (most - least)) *ℤ product.high) (pos (least * most * unit)) =
      ap (λ (z : ℤ). neg_ℤ z) same in
      high_end high end within is_end ∙ max_either (neg_ℤ high) (pos 0)
      ∙ ap₂ (λ (x y : ℤ). int_max x y) (sym (turned_up paths most unit some large product.low)) turned
