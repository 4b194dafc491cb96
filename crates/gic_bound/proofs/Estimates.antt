-- What a product that is divided is near, by the quotient of one factor rounded down.
use Rattle.std.proofs.Common.{◌≡◌, ℕ, suc, ◌+◌, ◌*◌, ◌/◌, ◌^◌, ◌<◌, ◌≤◌, ℤ, pos, negsuc, ◌+ℤ◌, ◌*ℤ◌, ◌≤ℤ◌, ◌<ℤ◌, unsigned_abs, length, take, arith, ap, refl, ⊎_elim, mul-le-mul}
use Rattle.std.proofs.lemmas.Int.{ints}
use Rattle.std.proofs.Math.Nat.{mul-div-le, lt-div-mul-add}
use Rattle.gic_fixed.specs.Rounding.{floor_div}
use Rattle.gic_fixed.proofs.Integers.{linear, *ℤ_assoc}
use Rattle.gic_fixed.proofs.Divisions.{floor_ge, floor_le}
use Rattle.gic_bound.specs.declared.estimate.Estimate.{Estimate}
use Rattle.gic_bound.specs.Estimates.{IsNear}
use Rattle.gic_bound.proofs.RowParts.{sum_more}
use Rattle.gic_model.specs.declared.parts.Element.{Element}
use Rattle.gic_model.specs.Limits.{IsElementWithin}
use Rattle.gic_model.specs.Sums.{Placed, sum_of}
use Rattle.gic_model.specs.Conductance.{conductance_down}
use Rattle.gic_net.specs.Net.{NetView, row_at, placed_at}

-- a factor that is not below 0 keeps an order, and one below 0 turns it
times_up : (m n : ℕ) (z : ℤ) → m ≤ n → pos 0 ≤ℤ z → (pos m *ℤ z) ≤ℤ (pos n *ℤ z)
times_up m n (pos a) h some = let k : m * a ≤ n * a = mul-le-mul h (omega arith) in omega (arith, ints)
times_up m n (negsuc a) h some = absurd (omega (arith, ints))

times_down : (m n : ℕ) (z : ℤ) → m ≤ n → z <ℤ pos 0 → (pos n *ℤ z) ≤ℤ (pos m *ℤ z)
times_down m n (pos a) h below = absurd (omega (arith, ints))
times_down m n (negsuc a) h below = let k : m * suc a ≤ n * suc a = mul-le-mul h (omega arith) in omega (arith, ints)

at_least : (n r c : ℕ) (z : ℤ) → 0 < r → (pos (r * c) *ℤ z) ≤ℤ (pos n *ℤ z) → (pos c *ℤ z) ≤ℤ floor_div (pos n *ℤ z) (pos r)
at_least n r c z some order =
    let same : pos (r * c) *ℤ z ≡ pos r *ℤ (pos c *ℤ z) = *ℤ_assoc (pos r) (pos c) z in
    floor_ge (pos n *ℤ z) r (pos c *ℤ z) some (omega (arith, linear))

at_most : (n r c : ℕ) (z : ℤ) → 0 < r → (pos n *ℤ z) ≤ℤ (pos (r * c) *ℤ z) → floor_div (pos n *ℤ z) (pos r) ≤ℤ (pos c *ℤ z)
at_most n r c z some order =
    let same : pos (r * c) *ℤ z ≡ pos r *ℤ (pos c *ℤ z) = *ℤ_assoc (pos r) (pos c) z in
    let more : pos 0 <ℤ pos r = omega (arith, ints) in
    floor_le (pos n *ℤ z) r (pos c *ℤ z) some (omega (arith, linear))

down_below : (n r : ℕ) → r * (n / r) ≤ n
down_below n r = mul-div-le n r

next_above : (n r : ℕ) → 0 < r → n ≤ r * (n / r + 1)
next_above n r some = omega (arith, lt-div-mul-add {a = n} {b = r} some)

times_next : (d : ℕ) (z : ℤ) → pos (d + 1) *ℤ z ≡ (pos d *ℤ z) +ℤ z
times_next d (pos a) = omega (arith, ints)
times_next d (negsuc a) = omega (arith, ints)

-- what a rise carries is near the product with the conductance rounded down
module _ (n r down : ℕ) (estimate : Estimate) (some : 0 < r) (down_is : down ≡ n / r) where
  below : r * down ≤ n
  below = let e : r * down ≡ r * (n / r) = ap (λ k. r * k) down_is in omega (arith, e, down_below n r)

  above : n ≤ r * (down + 1)
  above = let e : r * (down + 1) ≡ r * (n / r + 1) = ap (λ k. r * (k + 1)) down_is in omega (arith, e, next_above n r some)

  pub carried_near : (z : ℤ) → estimate.about ≡ pos down *ℤ z → estimate.off ≡ unsigned_abs z → IsNear estimate (floor_div (pos n *ℤ z) (pos r))
  carried_near (pos a) about off =
      let low = at_least n r down (pos a) some (times_up (r * down) n (pos a) below (omega (arith, ints))) in
      let high = at_most n r (down + 1) (pos a) some (times_up n (r * (down + 1)) (pos a) above (omega (arith, ints))) in
      let next = times_next down (pos a) in
      let width : pos estimate.off ≡ pos a = ap pos off in
      record { below = omega (arith, linear, low, about, width); above = omega (arith, linear, high, about, width, next) }
  carried_near (negsuc a) about off =
      let low = at_least n r (down + 1) (negsuc a) some (times_down n (r * (down + 1)) (negsuc a) above (omega (arith, ints))) in
      let high = at_most n r down (negsuc a) some (times_down (r * down) n (negsuc a) below (omega (arith, ints))) in
      let next = times_next down (negsuc a) in
      record { below = omega (arith, ints, low, about, off, next); above = omega (arith, ints, high, about, off) }

-- a conductance is small
pub down_small : (nodes : ℕ) (e : Element) → IsElementWithin nodes e → conductance_down e ≤ 2 ^ 32
down_small nodes e within =
    let few : e.times ≤ 3 = ⊎_elim (λ one. omega (arith, one)) (λ three. omega (arith, three)) within.one_or_three in
    let n = e.times * 1000000 * 2 ^ 20 in
    let r = e.micro_ohm in
    let most : n ≤ 3000000 * 2 ^ 20 = omega (arith, few) in
    let k : 1000 * (n / r) ≤ r * (n / r) = mul-le-mul within.least_ohm (omega arith) in
    omega (arith, down_below n r, most, k)

-- one part more
pub estimate_more : (f : Placed → ℤ) (net : NetView) (k i place : ℕ) (e : Element) (before part after : Estimate) → i < length (row_at net k) → placed_at net k i ≡ (place, e) →
    IsNear before (sum_of f (take i (row_at net k))) → IsNear part (f (place, e)) → after ≡ record { about = before.about +ℤ part.about; off = before.off + part.off } →
    IsNear after (sum_of f (take (i + 1) (row_at net k)))
estimate_more f net k i place e before part after h is a b c =
    let sum = sum_of f (take i (row_at net k)) in
    let more = sum_more f net k i place e sum (f (place, e)) (sum +ℤ f (place, e)) h is refl refl refl in
    let about : after.about ≡ before.about +ℤ part.about = ap (λ (s : Estimate). s.about) c in
    let off : after.off ≡ before.off + part.off = ap (λ (s : Estimate). s.off) c in
    record { below = omega (arith, linear, about, off, more, a.below, b.below); above = omega (arith, linear, about, off, more, a.above, b.above) }
