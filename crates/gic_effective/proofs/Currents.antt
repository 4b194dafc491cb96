-- The current of an element lies in the interval that the intervals of its ends give.
use Rattle.std.proofs.Common.{◌≡◌, ℕ, ◌*◌, ◌^◌, ◌<◌, ◌≤◌, ℤ, pos, ◌+ℤ◌, ◌-ℤ◌, ◌*ℤ◌, ◌≤ℤ◌, neg_ℤ, unsigned_abs, arith, refl, ap, sym, subst, ◌∙◌}
use Rattle.std.proofs.lemmas.Int.{ints, unsigned_abs-mul}
use Rattle.std.proofs.Math.Nat.{mul-le-mul}
use Rattle.gic_fixed.specs.Rounding.{floor_div, ceil_div}
use Rattle.gic_fixed.specs.Encloses.{Encloses, IsWithin}
use Rattle.gic_fixed.proofs.Integers.{linear, *ℤ-+ℤ, *ℤ--ℤ, *ℤ-neg_ℤ, *ℤ_assoc, *ℤ_left_comm, abs-neg_ℤ}
use Rattle.gic_fixed.proofs.Divisions.{positive_product, floor_ge, floor_le}
use Rattle.gic_fixed.proofs.Enclosures.{Encloses-neg, Encloses-add, Encloses-point, Encloses-times, Encloses-div_out, Encloses-cancel}
use Rattle.gic_effective.specs.Ohm.{OhmsLaw, current_low, current_high, most_current}
use lib.IntN.{*ℤ_comm}

-- g grains are a nanovolt
module _ (g : ℕ) (flo fhi tlo thi p q v : ℤ) (d : ℕ) where
  driven : pos g *ℤ p +ℤ neg_ℤ (pos g *ℤ q) +ℤ (pos g *ℤ v) *ℤ pos d ≡ pos g *ℤ (p -ℤ q +ℤ pos d *ℤ v)
  driven =
      let sum = *ℤ-+ℤ (pos g) (p -ℤ q) (pos d *ℤ v) in
      let difference = *ℤ--ℤ (pos g) p q in
      let last : (pos g *ℤ v) *ℤ pos d ≡ pos g *ℤ (pos d *ℤ v) = *ℤ_assoc (pos g) v (pos d) ∙ ap (λ z. pos g *ℤ z) (*ℤ_comm v (pos d)) in
      omega (arith, linear)

  pub drive_holds : Encloses flo fhi (pos g *ℤ p) d → Encloses tlo thi (pos g *ℤ q) d → Encloses (flo -ℤ thi +ℤ pos g *ℤ v) (fhi -ℤ tlo +ℤ pos g *ℤ v) (pos g *ℤ (p -ℤ q +ℤ pos d *ℤ v)) d
  drive_holds from to =
      let turned = Encloses-neg tlo thi (pos g *ℤ q) d to in
      let difference = Encloses-add flo fhi (pos g *ℤ p) (neg_ℤ thi) (neg_ℤ tlo) (neg_ℤ (pos g *ℤ q)) d from turned in
      let push = Encloses-point (pos g *ℤ v) d in
      let sum = Encloses-add (flo -ℤ thi) (fhi -ℤ tlo) (pos g *ℤ p +ℤ neg_ℤ (pos g *ℤ q)) (pos g *ℤ v) (pos g *ℤ v) ((pos g *ℤ v) *ℤ pos d) d difference push in
      subst (λ (z : ℤ). Encloses (flo -ℤ thi +ℤ pos g *ℤ v) (fhi -ℤ tlo +ℤ pos g *ℤ v) z d) driven sum

module _ (g times r : ℕ) (lo hi drive current : ℤ) (d : ℕ) where
  numerator : OhmsLaw times r drive current → pos (times * 1000000) *ℤ (pos g *ℤ drive) ≡ pos (r * g) *ℤ current
  numerator ohm =
      *ℤ_left_comm (pos (times * 1000000)) (pos g) drive ∙
      ap (λ z. pos g *ℤ z) (sym ohm) ∙
      *ℤ_left_comm (pos g) (pos r) current ∙
      sym (*ℤ_assoc (pos r) (pos g) current)

  pub current_holds : 0 < r → 0 < g → Encloses lo hi (pos g *ℤ drive) d → OhmsLaw times r drive current →
      Encloses (floor_div (pos (times * 1000000) *ℤ lo) (pos (r * g))) (ceil_div (pos (times * 1000000) *ℤ hi) (pos (r * g))) current d
  current_holds h k driven ohm =
      let raised = Encloses-times lo hi (pos g *ℤ drive) d (times * 1000000) driven in
      let some = positive_product r g h k in
      let out = Encloses-div_out _ _ _ d (r * g) some raised in
      Encloses-cancel _ _ current d (r * g) some
      (subst (λ (z : ℤ). Encloses (floor_div (pos (times * 1000000) *ℤ lo) (pos (r * g))) (ceil_div (pos (times * 1000000) *ℤ hi) (pos (r * g))) z (r * g * d)) (numerator ohm) out)

-- an interval with equal ends
pub Encloses-same : (lo hi lo' hi' z : ℤ) (d : ℕ) → lo ≡ lo' → hi ≡ hi' → Encloses lo' hi' z d → Encloses lo hi z d
Encloses-same lo hi lo' hi' z d low high h = subst (λ (w : ℤ). Encloses w hi z d) (sym low) (subst (λ (w : ℤ). Encloses lo' w z d) (sym high) h)

-- a potential in grains lies in its interval outward in millivolts
pub potential_holds : (lo hi p : ℤ) (d : ℕ) → Encloses lo hi (pos (2 ^ 36) *ℤ p) d → Encloses (floor_div lo (pos (1000000 * 2 ^ 36))) (ceil_div hi (pos (1000000 * 2 ^ 36))) p (1000000 * d)
potential_holds lo hi p d e =
    let out = Encloses-div_out lo hi (pos (2 ^ 36) *ℤ p) d (1000000 * 2 ^ 36) (omega arith) e in
    let same : 1000000 * 2 ^ 36 * d ≡ 2 ^ 36 * (1000000 * d) = omega arith in
    let low = floor_div lo (pos (1000000 * 2 ^ 36)) in
    let high = ceil_div hi (pos (1000000 * 2 ^ 36)) in
    Encloses-cancel low high p (1000000 * d) (2 ^ 36) (omega arith) (subst (λ (m : ℕ). Encloses low high (pos (2 ^ 36) *ℤ p) m) same out)

-- and outward in nanovolts
pub potential_nano_holds : (lo hi p : ℤ) (d : ℕ) → Encloses lo hi (pos (2 ^ 36) *ℤ p) d → Encloses (floor_div lo (pos (2 ^ 36))) (ceil_div hi (pos (2 ^ 36))) p d
potential_nano_holds lo hi p d e =
    Encloses-cancel (floor_div lo (pos (2 ^ 36))) (ceil_div hi (pos (2 ^ 36))) p d (2 ^ 36) (omega arith) (Encloses-div_out lo hi (pos (2 ^ 36) *ℤ p) d (2 ^ 36) (omega arith) e)

-- what is at most m times d has a quotient that is at most m
pub floor_small : (z : ℤ) (d m : ℕ) → 0 < d → unsigned_abs z ≤ d * m → unsigned_abs (floor_div z (pos d)) ≤ m
floor_small z d m h k =
    let turned = *ℤ-neg_ℤ (pos d) (pos m) in
    let product : pos d *ℤ pos m ≡ pos (d * m) = refl in
    let least : neg_ℤ (pos m) ≤ℤ floor_div z (pos d) = floor_ge z d (neg_ℤ (pos m)) h (omega (arith, ints, turned)) in
    let most : floor_div z (pos d) ≤ℤ pos m = floor_le z d (pos m) h (omega (arith, ints)) in
    omega (arith, ints, least, most)

-- so has what is rounded up
pub ceil_small : (z : ℤ) (d m : ℕ) → 0 < d → unsigned_abs z ≤ d * m → unsigned_abs (ceil_div z (pos d)) ≤ m
ceil_small z d m h k =
    let q = floor_div (neg_ℤ z) (pos d) in
    let turned = abs-neg_ℤ z in
    let down : unsigned_abs q ≤ m = floor_small (neg_ℤ z) d m h (omega (arith, turned, k)) in
    let up = abs-neg_ℤ q in
    omega (arith, up, down)

-- the quotient of a sum of three numbers that are within 2^112 each, by 2 or more
sum_within : (a b e : ℤ) (d : ℕ) → 2 ≤ d → unsigned_abs a ≤ 2 ^ 112 → unsigned_abs b ≤ 2 ^ 112 → unsigned_abs e ≤ 2 ^ 112 → unsigned_abs ((a +ℤ b) +ℤ e) ≤ d * 2 ^ 113
sum_within a b e d two h k l =
    let sum : unsigned_abs ((a +ℤ b) +ℤ e) ≤ 3 * 2 ^ 112 = omega (arith, ints, h, k, l) in
    omega (arith, two, sum)

pub quotient_within : (a b e a' b' e' lo hi : ℤ) (d : ℕ) → 2 ≤ d → IsWithin (2 ^ 112) a a' → IsWithin (2 ^ 112) b b' → IsWithin (2 ^ 112) e e' →
    lo ≡ floor_div ((a +ℤ b) +ℤ e) (pos d) → hi ≡ ceil_div ((a' +ℤ b') +ℤ e') (pos d) → IsWithin (2 ^ 113) lo hi
quotient_within a b e a' b' e' lo hi d two first second third low high =
    let some : 0 < d = omega (arith, two) in
    record {
      low = subst (λ (w : ℤ). unsigned_abs w ≤ 2 ^ 113) (sym low) (floor_small ((a +ℤ b) +ℤ e) d (2 ^ 113) some (sum_within a b e d two first.low second.low third.low));
      high = subst (λ (w : ℤ). unsigned_abs w ≤ 2 ^ 113) (sym high) (ceil_small ((a' +ℤ b') +ℤ e') d (2 ^ 113) some (sum_within a' b' e' d two first.high second.high third.high));
    }

product_small : (n r : ℕ) (z : ℤ) → n ≤ 3000000 → 1000 ≤ r → unsigned_abs z ≤ 2 ^ 98 → unsigned_abs (pos n *ℤ z) ≤ r * 2 ^ 36 * most_current
product_small n r z h k small =
    let product : n * unsigned_abs z ≤ 3000000 * 2 ^ 98 = mul-le-mul h small in
    let parts = unsigned_abs-mul (pos n) z in
    omega arith

-- no current is beyond 3000 times 2^62 nanoamperes
module _ (times r : ℕ) (drive : ℤ) (three : times ≤ 3) (thousand : 1000 ≤ r) (small : unsigned_abs drive ≤ 2 ^ 98) where
  product : unsigned_abs (pos (times * 1000000) *ℤ drive) ≤ r * 2 ^ 36 * most_current
  product = product_small (times * 1000000) r drive (omega arith) thousand small

  pub low_small : (z : ℤ) → z ≡ current_low times r drive → unsigned_abs z ≤ most_current
  low_small z is = subst (λ (w : ℤ). unsigned_abs w ≤ most_current) (sym is) (floor_small (pos (times * 1000000) *ℤ drive) (r * 2 ^ 36) most_current (omega arith) product)

  pub high_small : (z : ℤ) → z ≡ current_high times r drive → unsigned_abs z ≤ most_current
  high_small z is = subst (λ (w : ℤ). unsigned_abs w ≤ most_current) (sym is) (ceil_small (pos (times * 1000000) *ℤ drive) (r * 2 ^ 36) most_current (omega arith) product)
