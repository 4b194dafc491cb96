-- How far from 0 the ends of superposed intervals are.
use Rattle.std.proofs.Common.{◌≡◌, ℕ, ◌+◌, ◌-◌, ◌*◌, ◌<◌, ◌≤◌, ◌^◌, List, All, length, take, drop, ℤ, pos, ◌*ℤ◌, ◌≤ℤ◌, neg_ℤ, unsigned_abs, arith, refl, sym, ◌∙◌}
use Rattle.std.proofs.lemmas.Int.{ints}
use Rattle.std.proofs.lemmas.Nat.{row_fits}
use Rattle.std.proofs.lemmas.List.{length-map, length-drop, length-take-le}
use Rattle.std.proofs.lemmas.List.Elements.{All-map, All-take, All-drop}
use Rattle.gic_base.specs.declared.limits.TheConstants.{MOST_ZONES}
use Rattle.gic_fixed.specs.Encloses.{IsWithin}
use Rattle.gic_fixed.specs.Rounding.{floor_div, ceil_div}
use Rattle.gic_fixed.proofs.Divisions.{floor_ge, floor_le}
use Rattle.gic_fixed.proofs.Integers.{*ℤ-neg_ℤ, abs-neg_ℤ}
use Rattle.gic_induce.specs.Fields.{IsField, no_field, zone_field}
use Rattle.gic_superpose.proofs.Sums.{sum_below-within}
use Rattle.gic_superpose.specs.declared.pairs.ZonePair.{ZonePair}
use Rattle.gic_superpose.specs.Superposed.{ZoneEnds, no_zone_ends, zone_at, zone_low, zone_high, sum_low, sum_high, sums_in_milli, superposed}
use Rattle.gic_superpose.specs.Pairs.{zone_of, row_of, most_base, IsSmallPair, most_superposed}
use Rattle.gic_superpose.proofs.Parts.{zone_small}

-- what is at most m times d has a quotient that is at most m, rounded down and up
floor_small : (z : ℤ) (d m : ℕ) → 0 < d → unsigned_abs z ≤ d * m → unsigned_abs (floor_div z (pos d)) ≤ m
floor_small z d m h k =
    let turned = *ℤ-neg_ℤ (pos d) (pos m) in
    let product : pos d *ℤ pos m ≡ pos (d * m) = refl in
    let least : neg_ℤ (pos m) ≤ℤ floor_div z (pos d) = floor_ge z d (neg_ℤ (pos m)) h (omega (arith, ints, turned)) in
    let most : floor_div z (pos d) ≤ℤ pos m = floor_le z d (pos m) h (omega (arith, ints)) in
    omega (arith, ints, least, most)

ceil_small : (z : ℤ) (d m : ℕ) → 0 < d → unsigned_abs z ≤ d * m → unsigned_abs (ceil_div z (pos d)) ≤ m
ceil_small z d m h k =
    let q = floor_div (neg_ℤ z) (pos d) in
    let turned = abs-neg_ℤ z in
    let down : unsigned_abs q ≤ m = floor_small (neg_ℤ z) d m h (omega (arith, turned, k)) in
    let up = abs-neg_ℤ q in
    omega (arith, up, down)

-- all four ends of a zone are within this
pub record IsSmallZone (zone : ZoneEnds) : Type 0 where
  pub north : IsWithin most_base zone.north.low zone.north.high
  pub east : IsWithin most_base zone.east.low zone.east.high

small_zones : (pairs : List ZonePair) → All IsSmallPair pairs → All IsSmallZone (row_of pairs)
small_zones pairs small = All-map IsSmallZone zone_of pairs (λ k d less. record { north = (small k d less).north; east = (small k d less).east })

few_zones : (z : ℤ) (n : ℕ) → n ≤ 256 → unsigned_abs z ≤ n * (40000 * most_base) → unsigned_abs z ≤ sums_in_milli * most_superposed
few_zones z n h k = omega (arith, h, k)

module _ (fields : List (ℤ × ℤ)) (row : List ZoneEnds) (few : length fields ≤ MOST_ZONES) (within : All IsField fields) (count : length row ≡ length fields) (small : All IsSmallZone row) where
  each : (zone : ℕ) → zone < length fields → IsWithin (40000 * most_base) (zone_low (zone_field fields zone) (zone_at row zone)) (zone_high (zone_field fields zone) (zone_at row zone))
  each zone less =
      let here : IsSmallZone (zone_at row zone) = small zone no_zone_ends (omega (arith, less, count)) in
      zone_small (zone_field fields zone) (zone_at row zone) most_base (within zone no_field less) here.north here.east

  low : unsigned_abs (sum_low fields row) ≤ sums_in_milli * most_superposed
  low = few_zones (sum_low fields row) (length fields) few (sum_below-within (λ zone. zone_low (zone_field fields zone) (zone_at row zone)) (length fields) (40000 * most_base) (λ zone less. (each zone less).low))

  high : unsigned_abs (sum_high fields row) ≤ sums_in_milli * most_superposed
  high = few_zones (sum_high fields row) (length fields) few (sum_below-within (λ zone. zone_high (zone_field fields zone) (zone_at row zone)) (length fields) (40000 * most_base) (λ zone less. (each zone less).high))

  pub zones_small : IsWithin most_superposed (superposed fields row).low (superposed fields row).high
  zones_small = record {
    low = floor_small (sum_low fields row) sums_in_milli most_superposed (omega arith) low;
    high = ceil_small (sum_high fields row) sums_in_milli most_superposed (omega arith) high;
  }

-- the row at a place, of rows of a given number of zones
pub row_small : (fields : List (ℤ × ℤ)) (pairs : List ZonePair) (places zones place : ℕ) → length fields ≡ zones → zones ≤ MOST_ZONES → All IsField fields → length pairs ≡ places * zones
    → place < places → All IsSmallPair pairs
    → IsWithin most_superposed (superposed fields (take zones (drop (place * zones) (row_of pairs)))).low (superposed fields (take zones (drop (place * zones) (row_of pairs)))).high
row_small fields pairs places zones place is few within count inside small =
    let rest = drop (place * zones) (row_of pairs) in
    let fits : place * zones + zones ≤ places * zones = row_fits place zones places zones inside (omega arith) in
    let all : length (row_of pairs) ≡ places * zones = length-map pairs zone_of ∙ count in
    let left : length rest ≡ length (row_of pairs) - place * zones = length-drop (place * zones) (row_of pairs) in
    let whole : length (take zones rest) ≡ zones = length-take-le zones rest (omega (arith, fits, all, left)) in
    zones_small fields (take zones rest) (omega (arith, is, few)) within (whole ∙ sym is)
    (All-take IsSmallZone zones rest (All-drop IsSmallZone (place * zones) (row_of pairs) (small_zones pairs small)))
