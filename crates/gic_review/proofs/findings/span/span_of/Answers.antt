use Rattle.std.proofs.Common.{◌≡◌, ◌+◌, List, drop, subst, sym}
use Rattle.gic_case.specs.declared.part.LinePart.{LinePart}
use Rattle.gic_review.specs.declared.findings.span.Span.{Span}
use Rattle.gic_case.specs.Courses.{parts_of}
use Rattle.gic_review.proofs.PartsAdded.{IsPartWay, one_added}
use Rattle.gic_review.proofs.findings.span.span_of.Goals as goal

pub loop-part-preserved : goal.loop-part-preserved
loop-part-preserved c =
    let parts = parts_of c.args.line.now.course in
    let i = c.loop-part.part-index in
    let same : c.parts-part-items.result.now ≡ parts = c.parts-part-items.ensures in
    let way : IsPartWay c.loop-part.span (drop i c.parts-part-items.result.now) c.parts-part-items.result.now =
    subst (λ (l : List LinePart). IsPartWay c.loop-part.span (drop i l) l) (sym same) c.loop-part.invariant in
    subst (λ (l : List LinePart). IsPartWay c.span_with-span.result (drop (i + 1) l) l) same
    (subst (λ (s : Span). IsPartWay s (drop (i + 1) c.parts-part-items.result.now) c.parts-part-items.result.now) (sym c.span_with-span.ensures)
    (one_added c.parts-part-items.result.now i _ c.loop-part.span c.loop-part-test.true way))
