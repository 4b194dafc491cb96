use Rattle.gic_enclose.specs.Ends.{potential_ends}
use Rattle.gic_grounds.specs.Corner.{is_most_at}
use Rattle.gic_grounds.proofs.NodeLists.{ends_same}
use Rattle.gic_grounds.proofs.Strayed.{stray_is}
use Rattle.gic_grounds.proofs.sum.stray_at.Goals as goal

pub returns-clause-value : goal.returns-clause-value
returns-clause-value c =
    let varied = c.args.potentials.now in
    let node = c.element-ground.result.from.0 in
    stray_is c.args.nets.now.least.network c.args.nets.now.most.network (is_most_at c.args.corner.now) c.args.unit c.args.adjoint.now varied
    c.args.place.0 c.element-ground.result c.element-most.result c.is_most.result
    c.get-4.result c.get.result c.get-2.result c.get-3.result c.product-product.result c.stray.result c.varied-varied.result
    c.element-ground.ensures.value c.element-most.ensures.value c.is_most.ensures
    (ends_same c.get-4.result (potential_ends c.args.adjoint.now node) c.get-4.ensures.low c.get-4.ensures.high)
    (ends_same c.get.result (potential_ends varied.reference node) c.get.ensures.low c.get.ensures.high)
    (ends_same c.get-2.result (potential_ends varied.lowering node) c.get-2.ensures.low c.get-2.ensures.high)
    (ends_same c.get-3.result (potential_ends varied.raising node) c.get-3.ensures.low c.get-3.ensures.high)
    c.varied-varied.ensures.value c.product-product.ensures.value c.stray.ensures.value
