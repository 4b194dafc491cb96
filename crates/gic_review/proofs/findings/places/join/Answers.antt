use Rattle.std.proofs.Common.{arith}
use Rattle.gic_review.specs.Places.{alone, carried}
use Rattle.gic_review.proofs.Changed.{changed}
use Rattle.gic_review.proofs.findings.places.join.Goals as goal

pub returns : goal.returns
returns c =
    changed (carried c.args.from.now c.args.to.now c.args.gap.now) (alone 0) c.args.places.now c.loop-place.places c.loop-place.place-index (omega arith) c.loop-place.invariant
