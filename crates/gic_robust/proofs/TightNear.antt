-- Tight intervals that hold every solution, rounded outward to units, end near all that they hold.
use Rattle.std.proofs.Common.{◌≡◌, ℕ, ◌^◌, ◌*◌, ◌<◌, ◌≤◌, List, ℤ, pos, ◌+ℤ◌, ◌-ℤ◌, ◌*ℤ◌, ◌≤ℤ◌, ◌<ℤ◌, arith, sym, subst}
use Rattle.std.proofs.Math.Nat.{mul-le-mul, mul-le-mul_right}
use borrow.Author.Differences.{same_in}
use Rattle.gic_enclose.specs.Ends.{potential_ends}
use Rattle.gic_fixed.specs.Ends.{Ends}
use Rattle.gic_fixed.specs.Rounding.{floor_div, ceil_div}
use Rattle.gic_fixed.proofs.Divisions.{floor_above, ceil_below}
use Rattle.gic_fixed.proofs.Enclosures.{≤ℤ-times}
use Rattle.gic_fixed.proofs.Integers.{linear, up-*ℤ, down-*ℤ, ≤ℤ-from_*ℤ, *ℤ-+ℤ, *ℤ--ℤ, +ℤ-*ℤ}
use Rattle.gic_model.specs.Sums.{Placed}
use Rattle.gic_varied.specs.Near.{IsNearAt, AreNear}
use Rattle.gic_grounds.specs.VariedCurrent.{AreMadeOfTight}

-- a unit's grains times a quotient, over a denominator
unit_out : (c u d : ℕ) (z : ℤ) → (pos (c * u) *ℤ z) *ℤ pos d ≡ pos c *ℤ (z *ℤ pos (u * d))
unit_out c u d z = same_in _ _ (simp (up-*ℤ, down-*ℤ) (omega arith))

-- a width of at most a unit's grains, over a denominator
narrow : (c w u d : ℕ) → w ≤ c → 0 < u → w * d ≤ c * u * d
narrow c w u d small some =
    let first : w * 1 ≤ c * u = mul-le-mul small some in
    mul-le-mul_right d (omega (arith, first))

-- over plain numbers, c grains to a nanovolt and at most w of them wide: the low end rounded down is at most two units below what the interval holds
low_near : (c w u d : ℕ) (l h p f : ℤ) → 0 < c → w ≤ c → 0 < u → (h -ℤ l) ≤ℤ pos w → (pos c *ℤ p) ≤ℤ (h *ℤ pos d) →
    l <ℤ (pos (c * u) *ℤ f +ℤ pos (c * u)) → (p -ℤ pos (2 * u * d)) ≤ℤ (f *ℤ pos (u * d))
low_near c w u d l h p f some small above wide holds floor =
    let up_to = ≤ℤ-times h (l +ℤ pos w) d (omega (arith, linear)) in
    let split = +ℤ-*ℤ l (pos w) (pos d) in
    let below = ≤ℤ-times l (pos (c * u) *ℤ f +ℤ pos (c * u)) d (omega (arith, linear)) in
    let split_again = +ℤ-*ℤ (pos (c * u) *ℤ f) (pos (c * u)) (pos d) in
    let out = unit_out c u d f in
    let few = narrow c w u d small above in
    let parts = *ℤ--ℤ (pos c) p (pos (2 * u * d)) in
    ≤ℤ-from_*ℤ c (p -ℤ pos (2 * u * d)) (f *ℤ pos (u * d)) some (omega (arith, linear))

-- and the high end rounded up is at most two units above it
high_near : (c w u d : ℕ) (l h p g : ℤ) → 0 < c → w ≤ c → 0 < u → (h -ℤ l) ≤ℤ pos w → (l *ℤ pos d) ≤ℤ (pos c *ℤ p) →
    (pos (c * u) *ℤ g) <ℤ (h +ℤ pos (c * u)) → (g *ℤ pos (u * d)) ≤ℤ (p +ℤ pos (2 * u * d))
high_near c w u d l h p g some small above wide holds ceil =
    let up_to = ≤ℤ-times h (l +ℤ pos w) d (omega (arith, linear)) in
    let split = +ℤ-*ℤ l (pos w) (pos d) in
    let below = ≤ℤ-times (pos (c * u) *ℤ g) (h +ℤ pos (c * u)) d (omega (arith, linear)) in
    let split_again = +ℤ-*ℤ h (pos (c * u)) (pos d) in
    let out = unit_out c u d g in
    let few = narrow c w u d small above in
    let parts = *ℤ-+ℤ (pos c) p (pos (2 * u * d)) in
    ≤ℤ-from_*ℤ c (g *ℤ pos (u * d)) (p +ℤ pos (2 * u * d)) some (omega (arith, linear))

-- so do intervals in units that are made of tight ones
pub near_of_tight : (standing : List Placed) (volts : ℕ → ℤ) (unit : ℕ) (ends : ℕ → Ends) → 0 < unit →
    AreMadeOfTight standing volts unit ends → AreNear standing volts unit ends
near_of_tight standing volts unit ends some made s solves k live =
    let grains = potential_ends made.grains k in
    let holds = (made.certain k).live live s solves in
    let over : 0 < 2 ^ 36 * unit = omega (arith, some) in
    subst (λ (e : Ends). IsNearAt s unit k e) (sym (made.rounded k)) (record {
      low = low_near (2 ^ 36) (2 ^ 32) unit s.denominator grains.low grains.high (s.potential k) (floor_div grains.low (pos (2 ^ 36 * unit)))
          (omega arith) (omega arith) some (made.tight k) holds.below_hi (floor_above grains.low (2 ^ 36 * unit) over);
      high = high_near (2 ^ 36) (2 ^ 32) unit s.denominator grains.low grains.high (s.potential k) (ceil_div grains.high (pos (2 ^ 36 * unit)))
          (omega arith) (omega arith) some (made.tight k) holds.above_lo (ceil_below grains.high (2 ^ 36 * unit) over);
    })
