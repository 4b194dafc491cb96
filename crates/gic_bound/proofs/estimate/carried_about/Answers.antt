use Rattle.std.proofs.Common.{◌≡◌, ◌*ℤ◌, pos, to_z, of_z, arith, rules, ◌∙◌}
use Rattle.std.proofs.lemmas.Int.{ints}
use mir.Syntax.{w64}
use Rattle.gic_bound.proofs.Estimates.{carried_near}
use Rattle.gic_bound.proofs.estimate.carried_about.Goals as goal

pub returns-clause-carried : goal.returns-clause-carried
returns-clause-carried c = λ n r some down_is.
    let fits : to_z w64 (of_z w64 c.product.result) ≡ c.product.result = omega (arith, ints, c.product.ensures.small) in
    let about : c.product.result ≡ pos c.args.down *ℤ c.args.rise = search (rules, c.product.ensures.value) in
    carried_near n r c.args.down _ some down_is c.args.rise (fits ∙ about) (search rules)
