use Rattle.std.proofs.Common.{arith, ◌^◌, to_z, of_z}
use Rattle.std.proofs.lemmas.Int.{ints}
use mir.Syntax.{w64, w128}
use Rattle.gic_precondition.proofs.SmallProducts.{product_small}
use Rattle.gic_precondition.proofs.numbers.product.Goals as goal

pub returns : goal.returns
returns c =
    let a = to_z w128 (of_z w128 (to_z w64 (of_z w64 c.args.a))) in
    let b = to_z w128 (of_z w128 (to_z w64 (of_z w64 c.args.b))) in
    omega (arith, ints, product_small a b (2 ^ 63) (2 ^ 63) (omega (arith, ints)) (omega (arith, ints)))
