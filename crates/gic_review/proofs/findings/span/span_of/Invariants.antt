use Rattle.std.proofs.Common.{drop}
use Rattle.gic_case.specs.Courses.{parts_of}
use Rattle.gic_review.proofs.PartsAdded.{IsPartWay}
use Rattle.gic_review.proofs.findings.span.span_of.Given as goal

-- the span so far and the parts that are left are all
abbrev pub invariant-loop-part : goal.invariant-loop-part
invariant-loop-part l = IsPartWay l.span (drop l.part-index (parts_of l.line.course)) (parts_of l.line.course)
