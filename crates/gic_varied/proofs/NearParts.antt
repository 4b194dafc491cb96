-- At one ground: where the intervals of the adjoint potential and of a varied potential end near exact numbers, the interval of its stray power ends near the exact part.
use Rattle.std.proofs.Common.{◌≡◌, ℕ, ◌+◌, ◌*◌, ◌-◌, ◌<◌, ◌≤◌, max, ℤ, pos, neg_ℤ, ◌+ℤ◌, ◌-ℤ◌, ◌*ℤ◌, ◌≤ℤ◌, unsigned_abs, arith, ap, sym, subst, ◌∙◌}
use borrow.Author.Differences.{same_in}
use Rattle.std.specs.Int.{int_min, int_max}
use Rattle.std.proofs.lemmas.Int.{clamps}
use Rattle.gic_fixed.specs.Encloses.{Encloses}
use Rattle.gic_fixed.specs.Ends.{Ends}
use Rattle.gic_fixed.specs.Rounding.{floor_div, ceil_div}
use Rattle.gic_fixed.proofs.Integers.{linear, up-*ℤ, down-*ℤ, *ℤ_assoc}
use Rattle.gic_fixed.proofs.Divisions.{positive_product}
use Rattle.gic_fixed.proofs.Enclosures.{≤ℤ-times}
use Rattle.gic_varied.specs.Enclosure.{product_ends, stray_ends}
use Rattle.gic_varied.specs.Ranges.{Range, IsInRange}
use Rattle.gic_varied.proofs.LiftsCompared.{IsNearVaried}
use Rattle.gic_varied.proofs.NearProducts.{near_product, of_lesser, of_greater, floor_near, ceil_near, least_near, most_near, low_divided, high_divided, abs_times, times_max, off_bound}

-- the adjoint potential y, over d, lies in its interval in units of a nanovolts, which ends at most two units beyond it
pub record IsNearAdjoint (a d : ℕ) (y : ℤ) (adjoint : Ends) : Type 0 where
  pub holds : Encloses adjoint.low adjoint.high y (a * d)
  pub low : (y -ℤ pos (2 * a * d)) ≤ℤ (adjoint.low *ℤ pos (a * d))
  pub high : (adjoint.high *ℤ pos (a * d)) ≤ℤ (y +ℤ pos (2 * a * d))

-- a ground of this range, w over its resistance being its conductance: z is the current of y at the least resistance, i at least that of both exact ends, g at least its conductance in siemens
pub record IsSizedGround (range : Range) (w g : ℕ) (y z i : ℤ) (exact : Ends) : Type 0 where
  pub inside : IsInRange range range.least
  pub current : pos range.least *ℤ z ≡ pos w *ℤ y
  pub low : (pos w *ℤ pos (unsigned_abs exact.low)) ≤ℤ (pos range.least *ℤ i)
  pub high : (pos w *ℤ pos (unsigned_abs exact.high)) ≤ℤ (pos range.least *ℤ i)
  pub conductance : w ≤ range.least * g

-- the least and the greatest part in exact numbers, of products between y times each exact end
pub record IsPartOf (range : Range) (w : ℕ) (y : ℤ) (exact part : Ends) : Type 0 where
  pub low : pos (range.most * range.least) *ℤ part.low ≡ neg_ℤ (pos (w * (range.most - range.least)) *ℤ int_max (int_max (y *ℤ exact.low) (y *ℤ exact.high)) (pos 0))
  pub high : pos (range.most * range.least) *ℤ part.high ≡ neg_ℤ (pos (w * (range.most - range.least)) *ℤ int_min (int_min (y *ℤ exact.low) (y *ℤ exact.high)) (pos 0))

-- how far the ends of the stray power's interval may be from the part, over d twice, besides a unit
abbrev pub beyond : (a u d g : ℕ) (z i : ℤ) → ℤ
beyond a u d g z i = pos (43 * u * d) *ℤ pos (unsigned_abs z) +ℤ pos (2 * a * d) *ℤ (i +ℤ pos (43 * u * d * g))

-- products in another order
in_corner : (x v : ℕ) (e q : ℤ) → (e *ℤ pos x) *ℤ (q *ℤ pos v) ≡ pos (x * v) *ℤ (q *ℤ e)
in_corner x v e q = same_in _ _ (simp (up-*ℤ, down-*ℤ) (omega arith))

-- how far a product of two ends may be beyond the exact products, of numbers that are m at most
abbrev reach : (a u d m : ℕ) (y : ℤ) → ℕ
reach a u d m y = unsigned_abs y * (43 * u * d) + 2 * a * d * (m + 43 * u * d)

module _ (a u d m : ℕ) (y : ℤ) (adjoint varied exact : Ends) (near : IsNearAdjoint a d y adjoint) (also : IsNearVaried u d exact varied)
    (low_small : unsigned_abs exact.low ≤ m) (high_small : unsigned_abs exact.high ≤ m) where
  -- no further is this product
  abbrev Near : ℤ → Type 0
  Near p =
      ((int_min (y *ℤ exact.low) (y *ℤ exact.high) -ℤ pos (reach a u d m y)) ≤ℤ (pos (a * d * (u * d)) *ℤ p)) ×
      ((pos (a * d * (u * d)) *ℤ p) ≤ℤ (int_max (y *ℤ exact.low) (y *ℤ exact.high) +ℤ pos (reach a u d m y)))

  -- a product of two ends
  corner : (e q : ℤ) → (y -ℤ pos (2 * a * d)) ≤ℤ (e *ℤ pos (a * d)) → (e *ℤ pos (a * d)) ≤ℤ (y +ℤ pos (2 * a * d)) →
      (exact.low -ℤ pos (43 * u * d)) ≤ℤ (q *ℤ pos (u * d)) → (q *ℤ pos (u * d)) ≤ℤ (exact.high +ℤ pos (43 * u * d)) → Near (q *ℤ e)
  corner e q e_low e_high q_low q_high =
      let product = near_product y (e *ℤ pos (a * d)) (q *ℤ pos (u * d)) exact.low exact.high (2 * a * d) (43 * u * d) m e_low e_high q_low q_high low_small high_small in
      let same = in_corner (a * d) (u * d) e q in (
        subst (λ (p : ℤ). (int_min (y *ℤ exact.low) (y *ℤ exact.high) -ℤ pos (reach a u d m y)) ≤ℤ p) same product.0,
        subst (λ (p : ℤ). p ≤ℤ (int_max (y *ℤ exact.low) (y *ℤ exact.high) +ℤ pos (reach a u d m y))) same product.1,
      )

  -- each end of the adjoint interval
  adjoint_low : (y -ℤ pos (2 * a * d)) ≤ℤ (adjoint.low *ℤ pos (a * d)) × (adjoint.low *ℤ pos (a * d)) ≤ℤ (y +ℤ pos (2 * a * d))
  adjoint_low = (near.low, omega (arith, linear, near.holds.above_lo))

  adjoint_high : (y -ℤ pos (2 * a * d)) ≤ℤ (adjoint.high *ℤ pos (a * d)) × (adjoint.high *ℤ pos (a * d)) ≤ℤ (y +ℤ pos (2 * a * d))
  adjoint_high = (omega (arith, linear, near.holds.below_hi), near.high)

  -- each end of the varied interval
  in_order : (varied.low *ℤ pos (u * d)) ≤ℤ (varied.high *ℤ pos (u * d))
  in_order = ≤ℤ-times varied.low varied.high (u * d) also.order

  varied_low : (exact.low -ℤ pos (43 * u * d)) ≤ℤ (varied.low *ℤ pos (u * d)) × (varied.low *ℤ pos (u * d)) ≤ℤ (exact.high +ℤ pos (43 * u * d))
  varied_low = (also.low, omega (arith, linear, in_order, also.high))

  varied_high : (exact.low -ℤ pos (43 * u * d)) ≤ℤ (varied.high *ℤ pos (u * d)) × (varied.high *ℤ pos (u * d)) ≤ℤ (exact.high +ℤ pos (43 * u * d))
  varied_high = (omega (arith, linear, in_order, also.low), also.high)

  -- the four products
  low_low : Near (varied.low *ℤ adjoint.low)
  low_low = corner adjoint.low varied.low adjoint_low.0 adjoint_low.1 varied_low.0 varied_low.1

  high_low : Near (varied.high *ℤ adjoint.low)
  high_low = corner adjoint.low varied.high adjoint_low.0 adjoint_low.1 varied_high.0 varied_high.1

  low_high : Near (varied.low *ℤ adjoint.high)
  low_high = corner adjoint.high varied.low adjoint_high.0 adjoint_high.1 varied_low.0 varied_low.1

  high_high : Near (varied.high *ℤ adjoint.high)
  high_high = corner adjoint.high varied.high adjoint_high.0 adjoint_high.1 varied_high.0 varied_high.1

  -- and the ends of their interval
  least_product : Near (product_ends adjoint varied).low
  least_product = of_lesser Near _ _ (of_lesser Near _ _ low_low high_low) (of_lesser Near _ _ low_high high_high)

  greatest_product : Near (product_ends adjoint varied).high
  greatest_product = of_greater Near _ _ (of_greater Near _ _ low_low high_low) (of_greater Near _ _ low_high high_high)

-- products in another order
units_in : (n s a u d : ℕ) (e : ℤ) → pos (a * d * (u * d)) *ℤ (pos (n * s) *ℤ e) ≡ pos n *ℤ (pos (s * (a * u) * (d * d)) *ℤ e)
units_in n s a u d e =
    let number : a * d * (u * d) * (n * s) ≡ n * (s * (a * u) * (d * d)) = omega arith in
    sym (*ℤ_assoc (pos (a * d * (u * d))) (pos (n * s)) e) ∙ ap (λ (q : ℕ). pos q *ℤ e) number ∙ *ℤ_assoc (pos n) (pos (s * (a * u) * (d * d))) e

-- above the greatest product, and 0
above_both : (high top : ℤ) (e : ℕ) → top ≤ℤ (high +ℤ pos e) → (top ≤ℤ (int_max high (pos 0) +ℤ pos e)) × (pos 0 ≤ℤ (int_max high (pos 0) +ℤ pos e))
above_both high top e h = (omega (arith, linear, clamps), omega (arith, linear, clamps))

-- below the least product, and 0
below_both : (low bottom : ℤ) (e : ℕ) → (low -ℤ pos e) ≤ℤ bottom → ((int_min low (pos 0) -ℤ pos e) ≤ℤ bottom) × ((int_min low (pos 0) -ℤ pos e) ≤ℤ pos 0)
below_both low bottom e h = (omega (arith, linear, clamps), omega (arith, linear, clamps))

module _ (range : Range) (times stray a u d g : ℕ) (y z i : ℤ) (adjoint varied exact : Ends) (some_stray : 0 < stray)
    (sized : IsSizedGround range (times * 1000000) g y z i exact) (near : IsNearAdjoint a d y adjoint) (also : IsNearVaried u d exact varied) where
  -- the difference of the ground's conductances, times n
  abbrev c : ℕ
  c = times * 1000000 * (range.most - range.least)

  abbrev n : ℕ
  n = range.most * range.least

  some_n : 0 < n
  some_n = positive_product range.most range.least (let above = sized.inside.above_0 in let most = sized.inside.at_most in omega arith) sized.inside.above_0

  -- the greater exact end
  abbrev m : ℕ
  m = max (unsigned_abs exact.low) (unsigned_abs exact.high)

  low_small : unsigned_abs exact.low ≤ m
  low_small = omega arith

  high_small : unsigned_abs exact.high ≤ m
  high_small = omega arith

  -- how far the ends are from the part, times n
  abbrev more : ℕ
  more = reach a u d m y

  -- the current z of y, without signs
  as_absolute : times * 1000000 * unsigned_abs y ≤ range.least * unsigned_abs z
  as_absolute =
      let same = ap unsigned_abs sized.current in
      let left = abs_times range.least z in
      let right = abs_times (times * 1000000) y in
      omega arith

  -- they are at most as far as they may be
  small : pos (c * more) ≤ℤ (pos n *ℤ beyond a u d g z i)
  small =
      off_bound range.least range.most (times * 1000000) (unsigned_abs y) (unsigned_abs z) m g (43 * u * d) (2 * a * d) i sized.inside.above_0 as_absolute
      (times_max (times * 1000000) (unsigned_abs exact.low) (unsigned_abs exact.high) (pos range.least *ℤ i) sized.low sized.high) sized.conductance

  -- the ends of the product's interval, and those of the exact one
  abbrev product : Ends
  product = product_ends adjoint varied

  abbrev greatest : ℤ
  greatest = int_max (y *ℤ exact.low) (y *ℤ exact.high)

  abbrev least : ℤ
  least = int_min (y *ℤ exact.low) (y *ℤ exact.high)

  -- and these up and down to 0
  abbrev top : ℤ
  top = int_max greatest (pos 0)

  abbrev bottom : ℤ
  bottom = int_min least (pos 0)

  -- which the product's interval is at most `more` beyond
  under_top : ((pos (a * d * (u * d)) *ℤ product.high) ≤ℤ (top +ℤ pos more)) × (pos 0 ≤ℤ (top +ℤ pos more))
  under_top = above_both greatest _ more (greatest_product a u d m y adjoint varied exact near also low_small high_small).1

  over_bottom : ((bottom -ℤ pos more) ≤ℤ (pos (a * d * (u * d)) *ℤ product.low)) × ((bottom -ℤ pos more) ≤ℤ pos 0)
  over_bottom = below_both least _ more (least_product a u d m y adjoint varied exact near also low_small high_small).0

  -- the ground has its least resistance in the reference
  no_difference : times * 1000000 * (range.least - range.least) ≡ 0
  no_difference = let none : range.least - range.least ≡ 0 = omega arith in let times_none = ap (λ (r : ℕ). times * 1000000 * r) none in omega arith

  some_least : 0 < range.least * range.least * stray
  some_least = positive_product (range.least * range.least) stray (positive_product range.least range.least sized.inside.above_0 sized.inside.above_0) some_stray

  abbrev ends : Ends
  ends = stray_ends range times range.least stray product

  -- an end of the stray power's interval is not too low
  abbrev IsLow : ℤ → Type 0
  IsLow e = neg_ℤ (pos c *ℤ (top +ℤ pos more)) ≤ℤ (pos (a * d * (u * d)) *ℤ (pos (n * stray) *ℤ (e +ℤ pos 1)))

  low_end : IsLow ends.low
  low_end = of_lesser IsLow (floor_div (neg_ℤ (pos c *ℤ product.high)) (pos (n * stray)))
      (floor_div (pos (times * 1000000 * (range.least - range.least)) *ℤ product.low) (pos (range.least * range.least * stray)))
      (floor_near c (n * stray) (a * d * (u * d)) product.high (top +ℤ pos more) (positive_product n stray some_n some_stray) under_top.0)
      (least_near c (times * 1000000 * (range.least - range.least)) (n * stray) (range.least * range.least * stray) (a * d * (u * d))
      product.low (top +ℤ pos more) no_difference some_least under_top.1)

  -- nor too high
  abbrev IsHigh : ℤ → Type 0
  IsHigh e = (pos (a * d * (u * d)) *ℤ (pos (n * stray) *ℤ (e -ℤ pos 1))) ≤ℤ neg_ℤ (pos c *ℤ (bottom -ℤ pos more))

  high_end : IsHigh ends.high
  high_end = of_greater IsHigh (ceil_div (neg_ℤ (pos c *ℤ product.low)) (pos (n * stray)))
      (ceil_div (pos (times * 1000000 * (range.least - range.least)) *ℤ product.high) (pos (range.least * range.least * stray)))
      (ceil_near c (n * stray) (a * d * (u * d)) product.low (bottom -ℤ pos more) (positive_product n stray some_n some_stray) over_bottom.0)
      (most_near c (times * 1000000 * (range.least - range.least)) (n * stray) (range.least * range.least * stray) (a * d * (u * d))
      product.high (bottom -ℤ pos more) no_difference some_least over_bottom.1)

  -- a unit of the stray power
  abbrev one : ℕ
  one = stray * (a * u) * (d * d)

  at_low : (part : Ends) → IsPartOf range (times * 1000000) y exact part → part.low ≤ℤ (pos one *ℤ (ends.low +ℤ pos 1) +ℤ beyond a u d g z i)
  at_low part is =
      low_divided c n part.low (pos one *ℤ (ends.low +ℤ pos 1)) (beyond a u d g z i) top (pos more) _ some_n is.low low_end (units_in n stray a u d (ends.low +ℤ pos 1)) small

  at_high : (part : Ends) → IsPartOf range (times * 1000000) y exact part → (pos one *ℤ (ends.high -ℤ pos 1)) ≤ℤ (part.high +ℤ beyond a u d g z i)
  at_high part is =
      high_divided c n part.high (pos one *ℤ (ends.high -ℤ pos 1)) (beyond a u d g z i) bottom (pos more) _ some_n is.high high_end (units_in n stray a u d (ends.high -ℤ pos 1)) small

-- so the ends of the stray power's interval are at most a unit, and so much, beyond the part
pub near_part : (range : Range) (times stray a u d g : ℕ) (y z i : ℤ) (adjoint varied exact part : Ends) → 0 < stray → 0 < a → 0 < u → 0 < d →
    IsSizedGround range (times * 1000000) g y z i exact → IsNearAdjoint a d y adjoint → IsNearVaried u d exact varied → IsPartOf range (times * 1000000) y exact part →
    let ends = stray_ends range times range.least stray (product_ends adjoint varied) in
    let one = stray * (a * u) * (d * d) in
    (part.low ≤ℤ (pos one *ℤ (ends.low +ℤ pos 1) +ℤ beyond a u d g z i)) × ((pos one *ℤ (ends.high -ℤ pos 1)) ≤ℤ (part.high +ℤ beyond a u d g z i))
near_part range times stray a u d g y z i adjoint varied exact part some_stray some_a some_u some_d sized near also is = (
  at_low range times stray a u d g y z i adjoint varied exact some_stray sized near also part is,
  at_high range times stray a u d g y z i adjoint varied exact some_stray sized near also part is,
)
