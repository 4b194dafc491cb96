use Rattle.gic_review.proofs.Led.{united_pointers, united_lead}
use Rattle.gic_review.proofs.findings.union.unite.Goals as goal

pub returns-clause-pointers : goal.returns-clause-pointers
returns-clause-pointers c =
    united_pointers c.args.pointers.now c.args.one c.args.other c.first_of-a.result c.first_of-b.result c.min-first.result c.max.result
    c.requires.one c.requires.other c.first_of-a.ensures.before c.first_of-b.ensures.before c.min-first.ensures c.max.ensures c.requires.pointers

pub returns-clause-united : goal.returns-clause-united
returns-clause-united c = λ firsts h.
    united_lead c.args.pointers.now c.args.one c.args.other c.first_of-a.result c.first_of-b.result c.min-first.result c.max.result
    c.requires.one c.requires.other c.first_of-a.ensures.before c.first_of-b.ensures.before c.min-first.ensures c.max.ensures
    firsts h (c.first_of-a.ensures.first firsts h) (c.first_of-b.ensures.first firsts h) c.first_of-a.ensures.itself c.first_of-b.ensures.itself
