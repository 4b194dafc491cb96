use Rattle.std.proofs.Common.{◌≡◌, pos, ◌*ℤ◌, rules, arith}
use Rattle.std.proofs.lemmas.Int.{ints}
use Rattle.gic_sweep.proofs.Parts.{product_small}
use Rattle.gic_sweep.proofs.current.weighed.Goals as goal

pub returns-clause-small : goal.returns-clause-small
returns-clause-small c =
    let value : c.product.result ≡ pos c.weight.result *ℤ c.args.drive = search (rules, c.product.ensures) in
    let small = product_small c.weight.result c.args.drive c.product.result c.requires.drive value in
    omega (arith, ints, small, c.weight.ensures)
