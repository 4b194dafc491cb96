use Rattle.std.proofs.Common.{◌≡◌, ◌*◌, ◌^◌, ◌+ℤ◌, rules, ap₂, ◌∙◌}
use Rattle.gic_fixed.specs.Ends.{ends_of}
use Rattle.gic_fixed.specs.Encloses.{IsWithin}
use Rattle.gic_superpose.specs.Superposed.{low_part, high_part, zone_low, zone_high}
use Rattle.gic_superpose.specs.Pairs.{zone_of, most_base}
use Rattle.gic_superpose.proofs.Parts.{zone_small, fits_wide, same_within}
use Rattle.gic_superpose.proofs.superposing.zone_part.Goals as goal

low : (c : goal.After-times-2) → c.times.result.lo +ℤ c.times-2.result.lo ≡ zone_low c.get-north.result (zone_of c.pair_at-pair.result)
low c =
    let one : c.times.result.lo ≡ low_part (ends_of c.pair_at-pair.result.north) c.get-north.result.0 = search (rules, c.times.ensures.low) in
    let other : c.times-2.result.lo ≡ low_part (ends_of c.pair_at-pair.result.east) c.get-north.result.1 = search (rules, c.times-2.ensures.low) in
    ap₂ (λ x y. x +ℤ y) one other

high : (c : goal.After-times-2) → c.times.result.hi +ℤ c.times-2.result.hi ≡ zone_high c.get-north.result (zone_of c.pair_at-pair.result)
high c =
    let one : c.times.result.hi ≡ high_part (ends_of c.pair_at-pair.result.north) c.get-north.result.0 = search (rules, c.times.ensures.high) in
    let other : c.times-2.result.hi ≡ high_part (ends_of c.pair_at-pair.result.east) c.get-north.result.1 = search (rules, c.times-2.ensures.high) in
    ap₂ (λ x y. x +ℤ y) one other

within : (c : goal.After-times-2) → IsWithin (40000 * most_base) (c.times.result.lo +ℤ c.times-2.result.lo) (c.times.result.hi +ℤ c.times-2.result.hi)
within c =
    let small = c.pair_at-pair.ensures.small c.requires.small in
    same_within (40000 * most_base) _ _ _ _ (low c) (high c)
    (zone_small c.get-north.result (zone_of c.pair_at-pair.result) most_base c.get-north.ensures.within small.north small.east)

pub add-requires-clause-low : goal.add-requires-clause-low
add-requires-clause-low c = fits_wide _ (within c).low

pub add-requires-clause-high : goal.add-requires-clause-high
add-requires-clause-high c = fits_wide _ (within c).high

low_after : (c : goal.After-add) → c.add.result.lo ≡ zone_low c.get-north.result (zone_of c.pair_at-pair.result)
low_after c =
    let one : c.times.result.lo ≡ low_part (ends_of c.pair_at-pair.result.north) c.get-north.result.0 = search (rules, c.times.ensures.low) in
    let other : c.times-2.result.lo ≡ low_part (ends_of c.pair_at-pair.result.east) c.get-north.result.1 = search (rules, c.times-2.ensures.low) in
    c.add.ensures.low ∙ ap₂ (λ x y. x +ℤ y) one other

high_after : (c : goal.After-add) → c.add.result.hi ≡ zone_high c.get-north.result (zone_of c.pair_at-pair.result)
high_after c =
    let one : c.times.result.hi ≡ high_part (ends_of c.pair_at-pair.result.north) c.get-north.result.0 = search (rules, c.times.ensures.high) in
    let other : c.times-2.result.hi ≡ high_part (ends_of c.pair_at-pair.result.east) c.get-north.result.1 = search (rules, c.times-2.ensures.high) in
    c.add.ensures.high ∙ ap₂ (λ x y. x +ℤ y) one other

pub returns-clause-low : goal.returns-clause-low
returns-clause-low c = low_after c ∙ ap₂ zone_low c.get-north.ensures.value c.pair_at-pair.ensures.value

pub returns-clause-high : goal.returns-clause-high
returns-clause-high c = high_after c ∙ ap₂ zone_high c.get-north.ensures.value c.pair_at-pair.ensures.value

pub returns-clause-small : goal.returns-clause-small
returns-clause-small c =
    let small = c.pair_at-pair.ensures.small c.requires.small in
    same_within (40000 * most_base) _ _ _ _ (low_after c) (high_after c)
    (zone_small c.get-north.result (zone_of c.pair_at-pair.result) most_base c.get-north.ensures.within small.north small.east)
