-- A weighted current lies in the weighted interval.
use Rattle.std.proofs.Common.{ℕ, ◌+◌, ◌*◌, ◌<◌, ◌≤◌, Option, None, Some, ℤ, pos, ◌+ℤ◌, unsigned_abs, arith}
use Rattle.std.proofs.lemmas.Int.{ints, unsigned_abs-mul}
use Rattle.std.proofs.Math.Nat.{mul-le-mul_left}
use Rattle.gic_fixed.specs.Rounding.{floor_div, ceil_div}
use Rattle.gic_fixed.specs.Encloses.{Encloses}
use Rattle.gic_fixed.proofs.Enclosures.{Encloses-add, Encloses-times, Encloses-div_out}
use Rattle.gic_base.specs.declared.id.ElementId.{ElementId}
use Rattle.gic_winding.specs.declared.weights.Weights.{Weights}
use Rattle.gic_effective.specs.Ohm.{most_current}
use Rattle.gic_effective.specs.WeightedSum.{weighted, weighted_sum, weight_in, total_weight}

part_holds : (winding : Option (ElementId × ℕ)) (lo hi n : ℤ) (d : ℕ) → Encloses lo hi n d → Encloses (weighted winding lo) (weighted winding hi) (weighted winding n) d
part_holds None lo hi n d e = record { above_lo = omega (arith, ints); below_hi = omega (arith, ints) }
part_holds (Some w) lo hi n d e = Encloses-times lo hi n d w.1 e

-- so does the weighted sum of three, divided outward
pub sum_holds : (w : Weights) (over : ℕ) (lo hi lo' hi' lo'' hi'' n n' n'' : ℤ) (d : ℕ) → 0 < over →
    Encloses lo hi n d → Encloses lo' hi' n' d → Encloses lo'' hi'' n'' d →
    Encloses (floor_div (weighted_sum w lo lo' lo'') (pos over)) (ceil_div (weighted_sum w hi hi' hi'') (pos over)) (weighted_sum w n n' n'') (over * d)
sum_holds w over lo hi lo' hi' lo'' hi'' n n' n'' d some one other last =
    let both = Encloses-add _ _ _ _ _ _ d (part_holds w.first lo hi n d one) (part_holds w.second lo' hi' n' d other) in
    Encloses-div_out _ _ _ d over some (Encloses-add _ _ _ _ _ _ d both (part_holds w.third lo'' hi'' n'' d last))

-- the size of a weighted sum
part_small : (winding : Option (ElementId × ℕ)) (z : ℤ) → unsigned_abs z ≤ most_current → unsigned_abs (weighted winding z) ≤ weight_in winding * most_current
part_small None z h = omega arith
part_small (Some w) z h =
    let parts = unsigned_abs-mul (pos w.1) z in
    let most : w.1 * unsigned_abs z ≤ w.1 * most_current = mul-le-mul_left w.1 h in
    omega (arith, parts, most)

pub sum_small : (w : Weights) (volts : ℕ) (one other last : ℤ) → total_weight w ≤ 3 * volts →
    unsigned_abs one ≤ most_current → unsigned_abs other ≤ most_current → unsigned_abs last ≤ most_current → unsigned_abs (weighted_sum w one other last) ≤ 3 * volts * most_current
sum_small w volts one other last sum h k l =
    let a = part_small w.first one h in
    let b = part_small w.second other k in
    let c = part_small w.third last l in
    plain (weighted w.first one) (weighted w.second other) (weighted w.third last) (weight_in w.first * most_current) (weight_in w.second * most_current) (weight_in w.third * most_current) (3 * volts * most_current)
    a b c (omega (arith, sum))
  where
    plain : (x y z : ℤ) (m n k most : ℕ) → unsigned_abs x ≤ m → unsigned_abs y ≤ n → unsigned_abs z ≤ k → m + n + k ≤ most → unsigned_abs ((x +ℤ y) +ℤ z) ≤ most
    plain x y z m n k most p q r s = omega (arith, ints, p, q, r, s)
