use Rattle.std.proofs.Common.{◌*◌, ◌^◌, ◌<◌, ◌+ℤ◌, arith, ap₂, sym, ◌∙◌}
use Rattle.gic_induce.specs.Fields.{zone_field}
use Rattle.gic_superpose.specs.Superposed.{zone_at, zone_low, zone_high}
use Rattle.gic_superpose.specs.Pairs.{row_of, most_base}
use Rattle.gic_superpose.proofs.Parts.{next_fits, next_small, same_within}
use Rattle.gic_superpose.proofs.Sums.{sum_below-next}
use Rattle.gic_superpose.proofs.superposing.whole.Goals as goal

few : (c : goal.After-zone_part) → c.loop-zone.zone < 256
few c = omega (arith, c.loop-zone-test.true, c.loop-zone.auto.zone-end, c.zones-zone-end.ensures, c.requires.few)

pub add-sum-requires-clause-low : goal.add-sum-requires-clause-low
add-sum-requires-clause-low c = next_fits c.loop-zone.sum.lo c.zone_part.result.lo c.loop-zone.zone (few c) c.loop-zone.invariant.small.low c.zone_part.ensures.small.low

pub add-sum-requires-clause-high : goal.add-sum-requires-clause-high
add-sum-requires-clause-high c = next_fits c.loop-zone.sum.hi c.zone_part.result.hi c.loop-zone.zone (few c) c.loop-zone.invariant.small.high c.zone_part.ensures.small.high

pub loop-zone-preserved : goal.loop-zone-preserved
loop-zone-preserved c =
    let i = c.loop-zone.invariant in
    let fields = c.args.fields.now in
    let row = row_of c.args.row.now in
    let zone = c.loop-zone.zone in
    let part = c.zone_part.ensures in
    record {
      low = c.add-sum.ensures.low ∙ ap₂ (λ y z. y +ℤ z) i.low part.low ∙ sym (sum_below-next (λ zone. zone_low (zone_field fields zone) (zone_at row zone)) zone);
      high = c.add-sum.ensures.high ∙ ap₂ (λ y z. y +ℤ z) i.high part.high ∙ sym (sum_below-next (λ zone. zone_high (zone_field fields zone) (zone_at row zone)) zone);
      small = same_within _ _ _ _ _ c.add-sum.ensures.low c.add-sum.ensures.high (record {
        low = next_small c.loop-zone.sum.lo c.zone_part.result.lo zone (40000 * most_base) i.small.low part.small.low;
        high = next_small c.loop-zone.sum.hi c.zone_part.result.hi zone (40000 * most_base) i.small.high part.small.high;
      });
    }
