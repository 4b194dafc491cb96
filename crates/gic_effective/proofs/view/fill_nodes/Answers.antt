use Rattle.std.proofs.Common.{◌≡◌, ◌<◌, length, slice_index_or, slice_set, None, arith, ap, sym, subst, ◌∙◌}
use Rattle.std.proofs.lemmas.List.{length-set}
use Rattle.gic_net.specs.Net.{standing}
use Rattle.gic_view.specs.View.{View}
use Rattle.gic_view.specs.Kept.{optional_ends}
use Rattle.gic_effective.specs.Shown.{IsShownNode}
use Rattle.gic_view.proofs.Alone.{nodes_alone}
use Rattle.gic_effective.proofs.Filled.{filled}
use Rattle.gic_effective.proofs.view.fill_nodes.Goals as goal

pub loop-node-preserved : goal.loop-node-preserved
loop-node-preserved c =
    let i = c.loop-node.invariant in
    let xs = c.loop-node.out.nodes in
    let at = c.loop-node.node in
    let x = optional_ends c.node_interval.result in
    let new = c.set_node.new.self in
    let lists : new.nodes ≡ slice_set xs at x = ap (λ (v : View). v.nodes) c.set_node.ensures in
    let inside : at < length xs = omega (arith, c.loop-node-test.true, c.nodes-node-end.ensures.value, c.requires.space, i.count) in
    record {
      shown = λ volts k below. subst (λ ys. IsShownNode (standing c.args.net.now) volts c.args.potentials.now k (slice_index_or ys k None)) (sym lists)
          (filled (IsShownNode (standing c.args.net.now) volts c.args.potentials.now) xs None x at inside (i.shown volts) (c.node_interval.ensures.shown volts) k below);
      rest = nodes_alone c.args.out.now c.loop-node.out new (slice_set xs at x) i.rest c.set_node.ensures;
      count = ap length lists ∙ length-set xs at x ∙ i.count;
    }
