use Rattle.std.proofs.Common.{◌≡◌, ◌*◌, ◌<◌, ℕ, length, ◌+ℤ◌, arith, rules, ap₂, ◌∙◌}
use Rattle.gic_fixed.specs.Ends.{ends_of}
use Rattle.gic_fixed.specs.Encloses.{IsWithin}
use Rattle.gic_superpose.specs.Superposed.{low_part, high_part, zone_low, zone_high}
use Rattle.gic_superpose.specs.Pairs.{zone_of}
use Rattle.gic_superpose.specs.Compact.{most_compact}
use Rattle.gic_superpose.proofs.Parts.{zone_small, fits_compact, same_within, within_one, compact_zone}
use Rattle.gic_superpose.proofs.compact.zone_part.Goals as goal

some : (n zones : ℕ) → n < zones → 0 < zones
some n zones less = omega (arith, less)

pub times-requires-clause-small : goal.times-requires-clause-small
times-requires-clause-small c = within_one (length c.args.fields.now) _ _ (some c.args.zone _ c.requires.fields) (c.pair_at-pair.ensures.compact _ c.requires.compact).north

pub times-requires-2-clause-small : goal.times-requires-2-clause-small
times-requires-2-clause-small c = within_one (length c.args.fields.now) _ _ (some c.args.zone _ c.requires.fields) (c.pair_at-pair.ensures.compact _ c.requires.compact).east

low : (c : goal.After-times-2) → c.times.result.low +ℤ c.times-2.result.low ≡ zone_low c.get-north.result (zone_of c.pair_at-pair.result)
low c =
    let one : c.times.result.low ≡ low_part (ends_of c.pair_at-pair.result.north) c.get-north.result.0 = search (rules, c.times.ensures.low) in
    let other : c.times-2.result.low ≡ low_part (ends_of c.pair_at-pair.result.east) c.get-north.result.1 = search (rules, c.times-2.ensures.low) in
    ap₂ (λ x y. x +ℤ y) one other

high : (c : goal.After-times-2) → c.times.result.high +ℤ c.times-2.result.high ≡ zone_high c.get-north.result (zone_of c.pair_at-pair.result)
high c =
    let one : c.times.result.high ≡ high_part (ends_of c.pair_at-pair.result.north) c.get-north.result.0 = search (rules, c.times.ensures.high) in
    let other : c.times-2.result.high ≡ high_part (ends_of c.pair_at-pair.result.east) c.get-north.result.1 = search (rules, c.times-2.ensures.high) in
    ap₂ (λ x y. x +ℤ y) one other

within : (c : goal.After-times-2) → IsWithin (40000 * most_compact (length c.args.fields.now)) (c.times.result.low +ℤ c.times-2.result.low) (c.times.result.high +ℤ c.times-2.result.high)
within c =
    let zones = length c.args.fields.now in
    let compact = c.pair_at-pair.ensures.compact zones c.requires.compact in
    same_within (40000 * most_compact zones) _ _ _ _ (low c) (high c)
    (zone_small c.get-north.result (zone_of c.pair_at-pair.result) (most_compact zones) c.get-north.ensures.within compact.north compact.east)

pub added-requires-clause-low : goal.added-requires-clause-low
added-requires-clause-low c = fits_compact _ (40000 * most_compact (length c.args.fields.now)) (within c).low (compact_zone (length c.args.fields.now) (some c.args.zone _ c.requires.fields))

pub added-requires-clause-high : goal.added-requires-clause-high
added-requires-clause-high c = fits_compact _ (40000 * most_compact (length c.args.fields.now)) (within c).high (compact_zone (length c.args.fields.now) (some c.args.zone _ c.requires.fields))

low_after : (c : goal.After-added) → c.added.result.low ≡ zone_low c.get-north.result (zone_of c.pair_at-pair.result)
low_after c =
    let one : c.times.result.low ≡ low_part (ends_of c.pair_at-pair.result.north) c.get-north.result.0 = search (rules, c.times.ensures.low) in
    let other : c.times-2.result.low ≡ low_part (ends_of c.pair_at-pair.result.east) c.get-north.result.1 = search (rules, c.times-2.ensures.low) in
    c.added.ensures.low ∙ ap₂ (λ x y. x +ℤ y) one other

high_after : (c : goal.After-added) → c.added.result.high ≡ zone_high c.get-north.result (zone_of c.pair_at-pair.result)
high_after c =
    let one : c.times.result.high ≡ high_part (ends_of c.pair_at-pair.result.north) c.get-north.result.0 = search (rules, c.times.ensures.high) in
    let other : c.times-2.result.high ≡ high_part (ends_of c.pair_at-pair.result.east) c.get-north.result.1 = search (rules, c.times-2.ensures.high) in
    c.added.ensures.high ∙ ap₂ (λ x y. x +ℤ y) one other

pub returns-clause-low : goal.returns-clause-low
returns-clause-low c = low_after c ∙ ap₂ zone_low c.get-north.ensures.value c.pair_at-pair.ensures.value

pub returns-clause-high : goal.returns-clause-high
returns-clause-high c = high_after c ∙ ap₂ zone_high c.get-north.ensures.value c.pair_at-pair.ensures.value

pub returns-clause-small : goal.returns-clause-small
returns-clause-small c =
    let zones = length c.args.fields.now in
    let compact = c.pair_at-pair.ensures.compact zones c.requires.compact in
    same_within (40000 * most_compact zones) _ _ _ _ (low_after c) (high_after c)
    (zone_small c.get-north.result (zone_of c.pair_at-pair.result) (most_compact zones) c.get-north.ensures.within compact.north compact.east)
