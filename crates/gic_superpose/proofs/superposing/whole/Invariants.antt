use Rattle.std.proofs.Common.{◌≡◌, ◌*◌, ◌^◌}
use Rattle.gic_fixed.specs.Encloses.{IsWithin}
use Rattle.gic_induce.specs.Fields.{zone_field}
use Rattle.gic_superpose.specs.Sums.{sum_below}
use Rattle.gic_superpose.specs.Superposed.{zone_at, zone_low, zone_high}
use Rattle.gic_superpose.specs.Pairs.{row_of, most_base}
use Rattle.gic_superpose.proofs.superposing.whole.Given as goal

abbrev pub invariant-loop-zone : goal.invariant-loop-zone
invariant-loop-zone l = record {
  low : l.sum.lo ≡ sum_below (λ zone. zone_low (zone_field l.fields zone) (zone_at (row_of l.row) zone)) l.zone;
  high : l.sum.hi ≡ sum_below (λ zone. zone_high (zone_field l.fields zone) (zone_at (row_of l.row) zone)) l.zone;
  small : IsWithin (l.zone * (40000 * most_base)) l.sum.lo l.sum.hi;
}
