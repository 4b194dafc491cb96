use Rattle.gic_review.specs.PartSizes.{part_size}
use Rattle.gic_review.proofs.Changed.{Changed}
use Rattle.gic_review.proofs.findings.parts.size_parts.Given as goal

abbrev pub invariant-loop-count : goal.invariant-loop-count
invariant-loop-count l = Changed part_size 0 l.fn.counts l.counts l.count-index
