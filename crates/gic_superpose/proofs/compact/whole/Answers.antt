use Rattle.std.proofs.Common.{◌+◌, ◌*◌, ◌≤◌, length, ◌+ℤ◌, arith, ap₂, sym, ◌∙◌}
use Rattle.gic_fixed.specs.Encloses.{IsWithin}
use Rattle.gic_induce.specs.Fields.{zone_field}
use Rattle.gic_superpose.specs.Superposed.{zone_at, zone_low, zone_high}
use Rattle.gic_superpose.specs.Pairs.{row_of}
use Rattle.gic_superpose.specs.Compact.{most_compact}
use Rattle.gic_superpose.proofs.Parts.{next_small, fits_compact, same_within, compact_part}
use Rattle.gic_superpose.proofs.Sums.{sum_below-next}
use Rattle.gic_superpose.proofs.compact.whole.Goals as goal

next : (c : goal.After-zone_part) → IsWithin ((c.loop-zone.zone + 1) * (40000 * most_compact (length c.args.fields.now))) (c.loop-zone.sum.low +ℤ c.zone_part.result.low) (c.loop-zone.sum.high +ℤ c.zone_part.result.high)
next c = record {
  low = next_small c.loop-zone.sum.low c.zone_part.result.low c.loop-zone.zone (40000 * most_compact (length c.args.fields.now)) c.loop-zone.invariant.small.low c.zone_part.ensures.small.low;
  high = next_small c.loop-zone.sum.high c.zone_part.result.high c.loop-zone.zone (40000 * most_compact (length c.args.fields.now)) c.loop-zone.invariant.small.high c.zone_part.ensures.small.high;
}

less : (c : goal.After-zone_part) → c.loop-zone.zone + 1 ≤ length c.args.fields.now
less c = omega (arith, c.loop-zone-test.true, c.loop-zone.auto.zone-end, c.zones-zone-end.ensures)

pub added-sum-requires-clause-low : goal.added-sum-requires-clause-low
added-sum-requires-clause-low c = fits_compact _ _ (next c).low (compact_part (length c.args.fields.now) (c.loop-zone.zone + 1) (less c))

pub added-sum-requires-clause-high : goal.added-sum-requires-clause-high
added-sum-requires-clause-high c = fits_compact _ _ (next c).high (compact_part (length c.args.fields.now) (c.loop-zone.zone + 1) (less c))

pub loop-zone-preserved : goal.loop-zone-preserved
loop-zone-preserved c =
    let i = c.loop-zone.invariant in
    let fields = c.args.fields.now in
    let row = row_of c.args.row.now in
    let zone = c.loop-zone.zone in
    let part = c.zone_part.ensures in
    record {
      low = c.added-sum.ensures.low ∙ ap₂ (λ y z. y +ℤ z) i.low part.low ∙ sym (sum_below-next (λ zone. zone_low (zone_field fields zone) (zone_at row zone)) zone);
      high = c.added-sum.ensures.high ∙ ap₂ (λ y z. y +ℤ z) i.high part.high ∙ sym (sum_below-next (λ zone. zone_high (zone_field fields zone) (zone_at row zone)) zone);
      small = same_within _ _ _ _ _ c.added-sum.ensures.low c.added-sum.ensures.high (record {
        low = next_small c.loop-zone.sum.low c.zone_part.result.low zone (40000 * most_compact (length fields)) i.small.low part.small.low;
        high = next_small c.loop-zone.sum.high c.zone_part.result.high zone (40000 * most_compact (length fields)) i.small.high part.small.high;
      });
    }
