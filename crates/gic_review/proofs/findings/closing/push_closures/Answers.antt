use Rattle.std.proofs.Common.{length, arith, ap, sym, subst, ◌∙◌}
use Rattle.gic_review.specs.Closures.{AreLaidOut}
use Rattle.gic_review.proofs.LaidOut.{laid_start, length-start}
use Rattle.gic_review.proofs.findings.closing.push_closures.Goals as goal

pub push_closures_from-requires-clause-count : goal.push_closures_from-requires-clause-count
push_closures_from-requires-clause-count c =
    ap length c.deref_mut.ensures.value ∙ ap length c.in_ok-places.ensures ∙ length-start (length c.substations.result.now) ∙ ap length c.substations.ensures.value

pub push_closures_from-requires-clause-laid : goal.push_closures_from-requires-clause-laid
push_closures_from-requires-clause-laid c =
    subst AreLaidOut (sym (c.deref_mut.ensures.value ∙ c.in_ok-places.ensures))
    (laid_start (length c.substations.result.now) (omega (arith, ap length c.substations.ensures.value, c.substations.ensures.sound.few_substations)))
