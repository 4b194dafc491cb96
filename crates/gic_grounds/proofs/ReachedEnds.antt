-- Tight intervals that hold every solution end hardly beyond where solutions reach.
use Rattle.std.proofs.Common.{◌≡◌, ℕ, ◌+◌, ◌*◌, ◌^◌, ◌<◌, ◌≤◌, List, ℤ, pos, neg_ℤ, ◌-ℤ◌, ◌*ℤ◌, ◌≤ℤ◌, arith, sym, subst, unsigned_abs, ⊎_elim}
use lib.IntN.{*ℤ_comm}
use Rattle.std.proofs.lemmas.Bool.{cases_Bool}
use Rattle.std.proofs.lemmas.Int.{ints, unsigned_abs-mul}
use Rattle.gic_enclose.specs.Certain.{AreCertain, AreTight}
use Rattle.gic_enclose.specs.Ends.{potential_ends}
use Rattle.gic_fixed.specs.Encloses.{Encloses, IsWithin}
use Rattle.gic_fixed.specs.Ends.{Ends}
use Rattle.gic_fixed.proofs.Integers.{linear, *ℤ-neg_ℤ, ≤ℤ-from_*ℤ}
use Rattle.gic_model.specs.Limits.{most_wide_volts}
use Rattle.gic_model.specs.Solution.{Solution, IsSolution}
use Rattle.gic_model.specs.Standing.{IsLive, is_live}
use Rattle.gic_model.specs.Sums.{Placed}
use Rattle.gic_grounds.specs.NodeEnds.{AreAllWithin}

-- over plain numbers: an interval that is at most w wide and holds a number within m ends within w beyond it
ends_in : (lo hi z : ℤ) (d m w : ℕ) → 0 < d → Encloses lo hi z d → unsigned_abs z ≤ m * d → (hi -ℤ lo) ≤ℤ pos w → IsWithin (m + w) lo hi
ends_in lo hi z d m w some holds small wide =
    let low = *ℤ_comm lo (pos d) in
    let high = *ℤ_comm hi (pos d) in
    let turned = *ℤ-neg_ℤ (pos d) (pos m) in
    let above : lo ≤ℤ pos m = ≤ℤ-from_*ℤ d lo (pos m) some (low_most (pos d *ℤ lo) (omega (arith, linear, low, holds.above_lo))) in
    let below : neg_ℤ (pos m) ≤ℤ hi = ≤ℤ-from_*ℤ d (neg_ℤ (pos m)) hi some (high_least (pos d *ℤ hi) (pos d *ℤ neg_ℤ (pos m)) turned (omega (arith, linear, high, holds.below_hi))) in
    record { low = omega (arith, ints, above, below, wide); high = omega (arith, ints, above, below, wide) }
  where
    low_most : (p : ℤ) → p ≤ℤ z → p ≤ℤ pos (d * m)
    low_most p less = omega (arith, ints, less, small)

    high_least : (p q : ℤ) → q ≡ neg_ℤ (pos (d * m)) → z ≤ℤ p → q ≤ℤ p
    high_least p q is more = omega (arith, ints, is, more, small)

-- tight intervals end near what they hold
pub reached_ends : (standing : List Placed) (volts : ℕ → ℤ) (grains : List Ends) (s : Solution) (most : ℕ) → AreCertain standing volts grains → AreTight grains → IsSolution standing volts s →
    ((k : ℕ) → IsLive standing k → unsigned_abs (s.potential k) ≤ most * s.denominator) → AreAllWithin (2 ^ 36 * most + 2 ^ 32) grains
reached_ends standing volts grains s most certain tight solves within k = ⊎_elim
    (λ live.
    let size = unsigned_abs-mul (pos (2 ^ 36)) (s.potential k) in
    ends_in (potential_ends grains k).low (potential_ends grains k).high (pos (2 ^ 36) *ℤ s.potential k) s.denominator (2 ^ 36 * most) (2 ^ 32) solves.denominator_above_0
    ((certain k).live live s solves) (omega (arith, size, within k live)) (tight k))
    (λ dead. subst (λ (e : Ends). IsWithin (2 ^ 36 * most + 2 ^ 32) e.low e.high) (sym ((certain k).dead dead)) (record { low = omega (arith, ints); high = omega (arith, ints) }))
    (cases_Bool (is_live standing k))

-- with a greater bound too
pub within_more : (few many : ℕ) (grains : List Ends) → few ≤ many → AreAllWithin few grains → AreAllWithin many grains
within_more few many grains less all k = record { low = omega (arith, less, (all k).low); high = omega (arith, less, (all k).high) }

-- some solution for these voltages has no live node's potential beyond the greatest voltage for which a network is solved
pub record Reaches (standing : List Placed) (volts : ℕ → ℤ) : Type 0 where
  pub solution : Solution
  pub solves : IsSolution standing volts solution
  pub within : (k : ℕ) → IsLive standing k → unsigned_abs (solution.potential k) ≤ most_wide_volts * solution.denominator

-- then intervals that were put in units are within as much
pub kept_within : (standing : List Placed) (volts : ℕ → ℤ) (grains kept : List Ends) (bound : ℕ) → Reaches standing volts → AreCertain standing volts grains → AreTight grains → kept ≡ grains →
    2 ^ 36 * most_wide_volts + 2 ^ 32 ≤ bound → AreAllWithin bound kept
kept_within standing volts grains kept bound reaches certain tight same less =
    subst (λ (l : List Ends). AreAllWithin bound l) (sym same)
    (within_more (2 ^ 36 * most_wide_volts + 2 ^ 32) bound grains less (reached_ends standing volts grains reaches.solution most_wide_volts certain tight reaches.solves reaches.within))
