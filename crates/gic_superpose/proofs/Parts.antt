-- Parts of sums, and the sizes of these.
use Rattle.std.proofs.Common.{◌≡◌, ℕ, ◌+◌, ◌-◌, ◌*◌, ◌<◌, ◌≤◌, ◌^◌, List, length, ℤ, ◌+ℤ◌, ◌*ℤ◌, ◌≤ℤ◌, unsigned_abs, arith, ap}
use Rattle.std.specs.Prelude.{FitsSigned}
use Rattle.std.specs.Int.{w64, w128, int_min, int_max}
use Rattle.std.proofs.lemmas.Int.{ints, clamps, fits_signed_from_abs, unsigned_abs-mul}
use Rattle.std.proofs.Math.Nat.{mul-le-mul, mul-div-le}
use Rattle.gic_fixed.specs.Ends.{Ends}
use Rattle.gic_fixed.specs.Encloses.{IsWithin}
use Rattle.gic_induce.specs.Fields.{IsField, zone_field}
use Rattle.gic_superpose.specs.Pairs.{most_base}
use Rattle.gic_superpose.specs.Superposed.{ZoneEnds, zone_at, low_part, high_part, zone_low, zone_high, sum_low, sum_high}
use Rattle.gic_superpose.specs.Compact.{most_sum, most_compact}
use Rattle.gic_superpose.proofs.Sums.{sum_below-ordered}

least_within : (x y : ℤ) (b : ℕ) → unsigned_abs x ≤ b → unsigned_abs y ≤ b → unsigned_abs (int_min x y) ≤ b
least_within x y b h k = omega (arith, ints, clamps, h, k)

most_within : (x y : ℤ) (b : ℕ) → unsigned_abs x ≤ b → unsigned_abs y ≤ b → unsigned_abs (int_max x y) ≤ b
most_within x y b h k = omega (arith, ints, clamps, h, k)

product_small : (z part : ℤ) (m : ℕ) → unsigned_abs z ≤ m → unsigned_abs part ≤ 20000 → unsigned_abs (z *ℤ part) ≤ 20000 * m
product_small z part m h k =
    let parts = unsigned_abs-mul z part in
    let most : unsigned_abs z * unsigned_abs part ≤ m * 20000 = mul-le-mul h k in
    omega (arith, parts, most)

part_small : (ends : Ends) (part : ℤ) (m : ℕ) → unsigned_abs part ≤ 20000 → IsWithin m ends.low ends.high → IsWithin (20000 * m) (low_part ends part) (high_part ends part)
part_small ends part m few within =
    let one = product_small ends.low part m within.low few in
    let other = product_small ends.high part m within.high few in
    record {
      low = least_within (ends.low *ℤ part) (ends.high *ℤ part) (20000 * m) one other;
      high = most_within (ends.low *ℤ part) (ends.high *ℤ part) (20000 * m) one other;
    }

twice : (x y : ℤ) (b c : ℕ) → c ≡ 2 * b → unsigned_abs x ≤ b → unsigned_abs y ≤ b → unsigned_abs (x +ℤ y) ≤ c
twice x y b c is h k = omega (arith, ints, is, h, k)

-- what a zone adds, where its ends are within m
pub zone_small : (field : ℤ × ℤ) (zone : ZoneEnds) (m : ℕ) → IsField field → IsWithin m zone.north.low zone.north.high → IsWithin m zone.east.low zone.east.high
    → IsWithin (40000 * m) (zone_low field zone) (zone_high field zone)
zone_small field zone m within north east =
    let one = part_small zone.north field.0 m within.0 north in
    let other = part_small zone.east field.1 m within.1 east in
    let both : 40000 * m ≡ 2 * (20000 * m) = omega arith in
    record {
      low = twice (low_part zone.north field.0) (low_part zone.east field.1) (20000 * m) (40000 * m) both one.low other.low;
      high = twice (high_part zone.north field.0) (high_part zone.east field.1) (20000 * m) (40000 * m) both one.high other.high;
    }

-- the ends stay in order
part_ordered : (ends : Ends) (part : ℤ) → low_part ends part ≤ℤ high_part ends part
part_ordered ends part = plain (ends.low *ℤ part) (ends.high *ℤ part)
  where
    plain : (x y : ℤ) → int_min x y ≤ℤ int_max x y
    plain x y = omega (arith, ints, clamps)

zone_ordered : (field : ℤ × ℤ) (zone : ZoneEnds) → zone_low field zone ≤ℤ zone_high field zone
zone_ordered field zone =
    let one = part_ordered zone.north field.0 in
    let other = part_ordered zone.east field.1 in
    plain (low_part zone.north field.0) (high_part zone.north field.0) (low_part zone.east field.1) (high_part zone.east field.1) one other
  where
    plain : (a b c d : ℤ) → a ≤ℤ b → c ≤ℤ d → (a +ℤ c) ≤ℤ (b +ℤ d)
    plain a b c d h k = omega (arith, ints, h, k)

pub sums_ordered : (fields : List (ℤ × ℤ)) (row : List ZoneEnds) → sum_low fields row ≤ℤ sum_high fields row
sums_ordered fields row =
    sum_below-ordered (λ zone. zone_low (zone_field fields zone) (zone_at row zone)) (λ zone. zone_high (zone_field fields zone) (zone_at row zone)) (length fields)
    (λ zone less. zone_ordered (zone_field fields zone) (zone_at row zone))

-- a number of so few bits fits
pub fits_wide : (z : ℤ) → unsigned_abs z ≤ 40000 * most_base → FitsSigned w128 z
fits_wide z h = fits_signed_from_abs w128 z (omega (arith, h))

pub fits_compact : (z : ℤ) (m : ℕ) → unsigned_abs z ≤ m → m ≤ most_sum → FitsSigned w64 z
fits_compact z m h k = fits_signed_from_abs w64 z (omega (arith, h, k))

-- a sum over the first n zones and what one zone more adds
pub next_small : (s p : ℤ) (n b : ℕ) → unsigned_abs s ≤ n * b → unsigned_abs p ≤ b → unsigned_abs (s +ℤ p) ≤ (n + 1) * b
next_small s p n b h k = plain (n * b) ((n + 1) * b) (omega arith) h
  where
    plain : (m c : ℕ) → c ≡ m + b → unsigned_abs s ≤ m → unsigned_abs (s +ℤ p) ≤ c
    plain m c is g = omega (arith, ints, is, g, k)

pub next_fits : (s p : ℤ) (n : ℕ) → n < 256 → unsigned_abs s ≤ n * (40000 * most_base) → unsigned_abs p ≤ 40000 * most_base → FitsSigned w128 (s +ℤ p)
next_fits s p n few h k = fits_signed_from_abs w128 (s +ℤ p) (omega (arith, ints, h, k, few))

-- the sizes that 64 bits serve for
pub compact_whole : (zones : ℕ) → zones * (40000 * most_compact zones) ≤ most_sum
compact_whole zones = let most = mul-div-le most_sum (40000 * zones) in omega (arith, most)

pub compact_part : (zones n : ℕ) → n ≤ zones → n * (40000 * most_compact zones) ≤ most_sum
compact_part zones n less =
    let more : n * (40000 * most_compact zones) ≤ zones * (40000 * most_compact zones) = mul-le-mul less (omega arith) in
    let most = compact_whole zones in
    omega (arith, more, most)

pub compact_zone : (zones : ℕ) → 0 < zones → 40000 * most_compact zones ≤ most_sum
compact_zone zones some = let most = compact_part zones 1 some in omega (arith, most)

pub within_one : (zones : ℕ) (lo hi : ℤ) → 0 < zones → IsWithin (most_compact zones) lo hi → IsWithin (most_compact 1) lo hi
within_one zones lo hi some within =
    let most = compact_zone zones some in
    record { low = omega (arith, most, within.low); high = omega (arith, most, within.high) }

-- sums that are equal
pub same_within : (m : ℕ) (lo hi lo' hi' : ℤ) → lo ≡ lo' → hi ≡ hi' → IsWithin m lo' hi' → IsWithin m lo hi
same_within m lo hi lo' hi' e f h = record { low = omega (arith, h.low, ap unsigned_abs e); high = omega (arith, h.high, ap unsigned_abs f) }
