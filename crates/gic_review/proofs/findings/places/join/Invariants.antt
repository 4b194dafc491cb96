use Rattle.gic_review.specs.Places.{alone, carried}
use Rattle.gic_review.proofs.Changed.{Changed}
use Rattle.gic_review.proofs.findings.places.join.Given as goal

abbrev pub invariant-loop-place : goal.invariant-loop-place
invariant-loop-place l = Changed (carried l.from l.to l.gap) (alone 0) l.fn.places l.places l.place-index
