use Rattle.std.proofs.Common.{◌<◌, length, get_or, arith, ◌∙◌}
use Rattle.std.proofs.lemmas.List.{get_or_default}
use Rattle.gic_review.proofs.Counting.{count_most, count_there}
use Rattle.gic_review.proofs.findings.parts.counts.Goals as goal

pub overflow_add-index_mut : goal.overflow_add-index_mut
overflow_add-index_mut c =
    let firsts = c.args.firsts.now in
    let i = c.loop-first.first-index in
    let node = get_or firsts i 0 in
    let within : i < length firsts = omega arith in
    let there : node < length firsts = c.requires.inside i 0 within in
    let most = count_most firsts i node within in
    let counted = c.loop-first.invariant.counted node there in
    let few = c.requires.few in
    let value = c.index_mut.ensures.value ∙ get_or_default c.loop-first.counts.items node c.index_mut.result.now 0 (omega (arith, c.loop-first.invariant.many, there)) in
    omega (arith, most, counted, value, few)

pub loop-first-preserved : goal.loop-first-preserved
loop-first-preserved c =
    let firsts = c.args.firsts.now in
    let i = c.loop-first.first-index in
    let within : i < length firsts = omega arith in
    let inside = c.requires.inside i 0 within in
    record {
      many = c.loop-first.invariant.many;
      counted = λ k below. count_there c.loop-first.counts.items firsts i c.index_mut.result.now within (omega (arith, c.loop-first.invariant.many, inside)) c.index_mut.ensures.value c.loop-first.invariant.counted inside k below;
    }
