use Rattle.std.proofs.Common.{◌≡◌, ◌*ℤ◌, ◌<ℤ◌, ◌≤ℤ◌, pos, to_z, of_z, w64, arith, rules, ◌∙◌}
use Rattle.std.proofs.lemmas.Int.{ints}
use Rattle.gic_fixed.specs.Ends.{ends_of}
use Rattle.gic_superpose.proofs.BySign.{low_kept, high_kept, low_turned, high_turned}
use Rattle.gic_superpose.proofs.compact.times.Goals as goal

pub returns-then-part-lt0-clause-low : goal.returns-then-part-lt0-clause-low
returns-then-part-lt0-clause-low c =
    let product : to_z w64 (of_z w64 c.product-other.result) ≡ c.args.interval.hi *ℤ c.args.part = search (rules, c.product-other.ensures) in
    let below : c.args.part <ℤ pos 0 = omega (arith, ints, c.if-part-lt0.true) in
    product ∙ low_turned (ends_of c.args.interval) c.args.part c.args.interval.ordered below

pub returns-then-part-lt0-clause-high : goal.returns-then-part-lt0-clause-high
returns-then-part-lt0-clause-high c =
    let product : to_z w64 (of_z w64 c.product-one.result) ≡ c.args.interval.lo *ℤ c.args.part = search (rules, c.product-one.ensures) in
    let below : c.args.part <ℤ pos 0 = omega (arith, ints, c.if-part-lt0.true) in
    product ∙ high_turned (ends_of c.args.interval) c.args.part c.args.interval.ordered below

pub returns-else-part-lt0-clause-low : goal.returns-else-part-lt0-clause-low
returns-else-part-lt0-clause-low c =
    let product : to_z w64 (of_z w64 c.product-one.result) ≡ c.args.interval.lo *ℤ c.args.part = search (rules, c.product-one.ensures) in
    let some : pos 0 ≤ℤ c.args.part = omega (arith, ints, c.if-part-lt0.false) in
    product ∙ low_kept (ends_of c.args.interval) c.args.part c.args.interval.ordered some

pub returns-else-part-lt0-clause-high : goal.returns-else-part-lt0-clause-high
returns-else-part-lt0-clause-high c =
    let product : to_z w64 (of_z w64 c.product-other.result) ≡ c.args.interval.hi *ℤ c.args.part = search (rules, c.product-other.ensures) in
    let some : pos 0 ≤ℤ c.args.part = omega (arith, ints, c.if-part-lt0.false) in
    product ∙ high_kept (ends_of c.args.interval) c.args.part c.args.interval.ordered some
