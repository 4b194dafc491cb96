-- The ends of an interval times a part of a field, by the sign of the part.
use Rattle.std.proofs.Common.{◌≡◌, suc, ℤ, pos, negsuc, ◌*ℤ◌, neg_ℤ, ◌<ℤ◌, ◌≤ℤ◌, arith}
use Rattle.std.specs.Int.{int_min, int_max}
use Rattle.std.proofs.lemmas.Int.{ints, clamps}
use Rattle.gic_fixed.proofs.Integers.{linear, *ℤ-≤ℤ, *ℤ-neg_ℤ}
use Rattle.gic_superpose.specs.Superposed.{low_part, high_part}
use Rattle.gic_fixed.specs.Ends.{Ends}
use lib.IntN.{*ℤ_comm}

-- a part that isn't below 0 keeps the order, and one below 0 turns it
kept : (lo hi part : ℤ) → lo ≤ℤ hi → pos 0 ≤ℤ part → (lo *ℤ part) ≤ℤ (hi *ℤ part)
kept lo hi (pos n) order some =
    let times = *ℤ-≤ℤ n lo hi order in
    let low = *ℤ_comm lo (pos n) in
    let high = *ℤ_comm hi (pos n) in
    omega (arith, linear)
kept lo hi (negsuc n) order some = absurd (omega (arith, ints, some))

turned : (lo hi part : ℤ) → lo ≤ℤ hi → part <ℤ pos 0 → (hi *ℤ part) ≤ℤ (lo *ℤ part)
turned lo hi (pos n) order below = absurd (omega (arith, ints, below))
turned lo hi (negsuc n) order below =
    let times = *ℤ-≤ℤ (suc n) lo hi order in
    let low = *ℤ_comm lo (pos (suc n)) in
    let high = *ℤ_comm hi (pos (suc n)) in
    let turned_low : lo *ℤ negsuc n ≡ neg_ℤ (lo *ℤ pos (suc n)) = *ℤ-neg_ℤ lo (pos (suc n)) in
    let turned_high : hi *ℤ negsuc n ≡ neg_ℤ (hi *ℤ pos (suc n)) = *ℤ-neg_ℤ hi (pos (suc n)) in
    omega (arith, linear)

least : (x y : ℤ) → x ≤ℤ y → x ≡ int_min x y
least x y h = omega (arith, ints, clamps, h)

least_last : (x y : ℤ) → y ≤ℤ x → y ≡ int_min x y
least_last x y h = omega (arith, ints, clamps, h)

most : (x y : ℤ) → x ≤ℤ y → y ≡ int_max x y
most x y h = omega (arith, ints, clamps, h)

most_last : (x y : ℤ) → y ≤ℤ x → x ≡ int_max x y
most_last x y h = omega (arith, ints, clamps, h)

module _ (ends : Ends) (part : ℤ) (order : ends.low ≤ℤ ends.high) where
  pub low_kept : pos 0 ≤ℤ part → ends.low *ℤ part ≡ low_part ends part
  low_kept some = least (ends.low *ℤ part) (ends.high *ℤ part) (kept ends.low ends.high part order some)

  pub high_kept : pos 0 ≤ℤ part → ends.high *ℤ part ≡ high_part ends part
  high_kept some = most (ends.low *ℤ part) (ends.high *ℤ part) (kept ends.low ends.high part order some)

  pub low_turned : part <ℤ pos 0 → ends.high *ℤ part ≡ low_part ends part
  low_turned below = least_last (ends.low *ℤ part) (ends.high *ℤ part) (turned ends.low ends.high part order below)

  pub high_turned : part <ℤ pos 0 → ends.low *ℤ part ≡ high_part ends part
  high_turned below = most_last (ends.low *ℤ part) (ends.high *ℤ part) (turned ends.low ends.high part order below)
