-- How wide superposed intervals are.
use Rattle.std.proofs.Common.{◌≡◌, ℕ, suc, ◌*◌, ◌<◌, ◌≤◌, List, length, ℤ, pos, negsuc, ◌+ℤ◌, ◌-ℤ◌, ◌*ℤ◌, ◌≤ℤ◌, neg_ℤ, unsigned_abs, arith, ap, ◌∙◌}
use Rattle.std.specs.Int.{int_min, int_max}
use Rattle.std.proofs.lemmas.Int.{ints, clamps}
use lib.IntN.{*ℤ_comm}
use Rattle.gic_base.specs.declared.limits.TheConstants.{MOST_ZONES}
use Rattle.gic_fixed.specs.Ends.{Ends, IsAtMostWide}
use Rattle.gic_fixed.proofs.Integers.{linear, *ℤ-≤ℤ, *ℤ--ℤ, *ℤ-neg_ℤ}
use Rattle.gic_fixed.proofs.Divisions.{outward_width}
use Rattle.gic_induce.specs.Fields.{IsField, zone_field}
use Rattle.gic_superpose.specs.Superposed.{ZoneEnds, zone_at, low_part, high_part, zone_low, zone_high, sum_low, sum_high, sums_in_milli, superposed, IsNarrowBase, IsNarrowZone}
use Rattle.gic_superpose.proofs.Sums.{sum_below-apart}

-- n times an interval that is at most 1000 wide
times_wide : (lo hi : ℤ) (c : ℕ) → c ≤ 20000 → lo ≤ℤ hi → (hi -ℤ lo) ≤ℤ pos 1000 → ((pos c *ℤ hi) -ℤ (pos c *ℤ lo)) ≤ℤ pos 20000000
times_wide lo hi c few ordered wide =
    let parts = *ℤ--ℤ (pos c) hi lo in
    let times : (pos c *ℤ (hi -ℤ lo)) ≤ℤ pos (c * 1000) = *ℤ-≤ℤ c (hi -ℤ lo) (pos 1000) wide in
    omega (arith, linear, few)

apart : (x y : ℤ) (m : ℕ) → (y -ℤ x) ≤ℤ pos m → x ≤ℤ y → (int_max x y -ℤ int_min x y) ≤ℤ pos m
apart x y m h k = omega (arith, ints, clamps, h, k)

apart_turned : (x y : ℤ) (m : ℕ) → (x -ℤ y) ≤ℤ pos m → y ≤ℤ x → (int_max x y -ℤ int_min x y) ≤ℤ pos m
apart_turned x y m h k = omega (arith, ints, clamps, h, k)

part_wide : (ends : Ends) (part : ℤ) → unsigned_abs part ≤ 20000 → IsNarrowBase ends → (high_part ends part -ℤ low_part ends part) ≤ℤ pos 20000000
part_wide ends (pos c) few narrow =
    let one = *ℤ_comm ends.low (pos c) in
    let other = *ℤ_comm ends.high (pos c) in
    let wide = times_wide ends.low ends.high c (omega (arith, few)) narrow.ordered narrow.width in
    let order = *ℤ-≤ℤ c ends.low ends.high narrow.ordered in
    apart (ends.low *ℤ pos c) (ends.high *ℤ pos c) 20000000 (omega (arith, linear)) (omega (arith, linear))
part_wide ends (negsuc c) few narrow =
    let one : ends.low *ℤ negsuc c ≡ neg_ℤ (pos (suc c) *ℤ ends.low) = *ℤ-neg_ℤ ends.low (pos (suc c)) ∙ ap neg_ℤ (*ℤ_comm ends.low (pos (suc c))) in
    let other : ends.high *ℤ negsuc c ≡ neg_ℤ (pos (suc c) *ℤ ends.high) = *ℤ-neg_ℤ ends.high (pos (suc c)) ∙ ap neg_ℤ (*ℤ_comm ends.high (pos (suc c))) in
    let wide = times_wide ends.low ends.high (suc c) (omega (arith, few)) narrow.ordered narrow.width in
    let order = *ℤ-≤ℤ (suc c) ends.low ends.high narrow.ordered in
    apart_turned (ends.low *ℤ negsuc c) (ends.high *ℤ negsuc c) 20000000 (omega (arith, linear)) (omega (arith, linear))

-- over plain numbers
two_wide : (a b c d : ℤ) → (b -ℤ a) ≤ℤ pos 20000000 → (d -ℤ c) ≤ℤ pos 20000000 → ((b +ℤ d) -ℤ (a +ℤ c)) ≤ℤ pos 40000000
two_wide a b c d h k = omega (arith, ints, h, k)

zone_wide : (field : ℤ × ℤ) (zone : ZoneEnds) → IsField field → IsNarrowZone zone → (zone_high field zone -ℤ zone_low field zone) ≤ℤ pos 40000000
zone_wide field zone within narrow =
    two_wide (low_part zone.north field.0) (high_part zone.north field.0) (low_part zone.east field.1) (high_part zone.east field.1)
    (part_wide zone.north field.0 within.0 narrow.north) (part_wide zone.east field.1 within.1 narrow.east)

few_wide : (lo hi : ℤ) (n : ℕ) → n ≤ 256 → (hi -ℤ lo) ≤ℤ pos (n * 40000000) → (hi -ℤ lo) ≤ℤ pos (sums_in_milli * 1)
few_wide lo hi n few h = omega (arith, ints, few, h)

module _ (fields : List (ℤ × ℤ)) (row : List ZoneEnds) (few : length fields ≤ MOST_ZONES) (within : (zone : ℕ) → zone < length fields → IsField (zone_field fields zone))
    (narrow : (zone : ℕ) → zone < length fields → IsNarrowZone (zone_at row zone)) where
  pub superposed_narrow : IsAtMostWide 2 (superposed fields row).low (superposed fields row).high
  superposed_narrow =
      outward_width (sum_low fields row) (sum_high fields row) sums_in_milli 1 (omega arith)
      (few_wide (sum_low fields row) (sum_high fields row) (length fields) few
      (sum_below-apart (λ zone. zone_low (zone_field fields zone) (zone_at row zone)) (λ zone. zone_high (zone_field fields zone) (zone_at row zone)) (length fields) 40000000
      (λ zone less. zone_wide (zone_field fields zone) (zone_at row zone) (within zone less) (narrow zone less))))
