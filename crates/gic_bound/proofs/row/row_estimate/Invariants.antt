use Rattle.std.proofs.Common.{◌*◌, ◌^◌, ◌≤◌, take, slice_index, unsigned_abs}
use Rattle.gic_model.specs.Sums.{sum_of}
use Rattle.gic_model.specs.Bound.{row_part}
use Rattle.gic_net.specs.Net.{row_at}
use Rattle.gic_bound.specs.Estimates.{IsNear}
use Rattle.gic_bound.proofs.row.row_estimate.Given as goal

abbrev pub invariant-loop-place : goal.invariant-loop-place
invariant-loop-place l = record {
  sum : IsNear l.estimate (sum_of (row_part (slice_index l.vector) l.node.0) (take l.place (row_at l.net l.node.0)));
  off : l.estimate.off ≤ l.place * 4098;
  small : unsigned_abs l.estimate.about ≤ l.place * 2 ^ 45;
}
