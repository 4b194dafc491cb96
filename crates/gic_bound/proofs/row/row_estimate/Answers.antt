use Rattle.std.proofs.Common.{◌≡◌, ◌+◌, ◌<◌, length, slice_index, ◌+ℤ◌, arith, ap}
use Rattle.std.proofs.lemmas.Int.{ints}
use Rattle.gic_model.specs.Bound.{row_part}
use Rattle.gic_net.specs.Net.{row_at, element_of}
use Rattle.gic_bound.specs.declared.estimate.Estimate.{Estimate}
use Rattle.gic_bound.proofs.Estimates.{estimate_more}
use Rattle.gic_bound.proofs.row.row_estimate.Goals as goal

pub loop-place-preserved : goal.loop-place-preserved
loop-place-preserved c =
    let net = c.args.net.now in
    let k = c.args.node.0 in
    let i = c.loop-place.place in
    let h : i < length (row_at net k) = omega (arith, c.loop-place-test.true, c.degree-place-end.ensures.value) in
    let id = c.element_at.result.0 in
    let before = c.loop-place.estimate in
    let part = c.part_estimate-part.result in
    let after = c.add-estimate.result in
    let about : after.about ≡ before.about +ℤ part.about = ap (λ (s : Estimate). s.about) c.add-estimate.ensures in
    let off : after.off ≡ before.off + part.off = ap (λ (s : Estimate). s.off) c.add-estimate.ensures in
    record {
      sum = estimate_more (row_part (slice_index c.args.vector.now) k) net k i id (element_of net.network id) before part after h c.element_at.ensures.value c.loop-place.invariant.sum c.part_estimate-part.ensures.part c.add-estimate.ensures;
      off = omega (arith, off, c.loop-place.invariant.off, c.part_estimate-part.ensures.off);
      small = omega (arith, ints, about, c.loop-place.invariant.small, c.part_estimate-part.ensures.small);
    }
