use Rattle.std.proofs.Common.{◌<◌, map, length, arith, ◌∙◌}
use Rattle.std.proofs.lemmas.List.{ext_get_or, length-map, length-set}
use Rattle.gic_fixed.specs.Ends.{ends_of, zero_ends}
use Rattle.gic_model.specs.Guess.{most_guess}
use Rattle.gic_grounds.proofs.NodeLists.{all_within, next_kept, next_within}
use Rattle.gic_grounds.proofs.node_intervals.keep_all.Goals as goal

pub loop-node-preserved : goal.loop-node-preserved
loop-node-preserved c =
    let inside : c.loop-node.node < length c.loop-node.list = omega (arith, c.loop-node-test.true, c.loop-node.auto.list) in
    record {
      count = length-set c.loop-node.list c.loop-node.node c.get.result ∙ c.loop-node.invariant.count;
      kept = next_kept c.args.potentials.now c.loop-node.list c.loop-node.node c.get.result inside c.get.ensures.low c.get.ensures.high c.loop-node.invariant.kept;
      small = next_within c.args.potentials.now c.loop-node.node most_guess most_guess c.get.result (omega arith) c.get.ensures.low c.get.ensures.high c.get.ensures.small
          c.loop-node.invariant.small;
    }

pub returns-clause-same : goal.returns-clause-same
returns-clause-same c =
    ext_get_or zero_ends (map ends_of c.loop-node.list) c.args.potentials.now (length-map c.loop-node.list ends_of ∙ c.loop-node.invariant.count)
    (λ k within. c.loop-node.invariant.kept k (omega (arith, within, length-map c.loop-node.list ends_of, c.loop-node.auto.list, c.loop-node-test.false)))

pub returns-clause-small : goal.returns-clause-small
returns-clause-small c =
    all_within most_guess c.args.potentials.now (λ k within. c.loop-node.invariant.small k (omega (arith, within, c.loop-node.invariant.count, c.loop-node.auto.list, c.loop-node-test.false)))
