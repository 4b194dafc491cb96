use Rattle.std.proofs.Common.{◌<◌, length, arith, sym, ◌∙◌}
use Rattle.gic_review.proofs.findings.union.first_of.Goals as goal

pub loop-at-preserved : goal.loop-at-preserved
loop-at-preserved c =
    let at = c.loop-at.at in
    let inside : at < length c.args.pointers.now = omega (arith, c.loop-at.invariant.before, c.requires.node) in
    let low = c.requires.pointers at inside in
    record {
      before = omega (arith, low, c.loop-at.invariant.before);
      same = λ firsts h. sym (h.along at inside) ∙ c.loop-at.invariant.same firsts h;
    }

pub loop-at-smaller : goal.loop-at-smaller
loop-at-smaller c =
    let inside : c.loop-at.at < length c.args.pointers.now = omega (arith, c.loop-at.invariant.before, c.requires.node) in
    let low = c.requires.pointers c.loop-at.at inside in
    omega (arith, low)

pub returns-clause-first : goal.returns-clause-first
returns-clause-first c = λ firsts h.
    let inside : c.loop-at.at < length c.args.pointers.now = omega (arith, c.loop-at.invariant.before, c.requires.node) in
    sym (h.itself c.loop-at.at inside c.loop-at-test.false) ∙ c.loop-at.invariant.same firsts h
