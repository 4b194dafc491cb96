use Rattle.std.proofs.Common.{map, arith}
use Rattle.std.proofs.lemmas.List.{length-map}
use Rattle.gic_fixed.specs.Ends.{ends_of}
use Rattle.gic_grounds.proofs.NodeLists.{next_in_units, all_in_units}
use Rattle.gic_grounds.proofs.node_intervals.round_all.Goals as goal

pub loop-interval-preserved : goal.loop-interval-preserved
loop-interval-preserved c =
    next_in_units c.args.unit c.loop-interval.interval-index c.args.list.now c.loop-interval.interval-items c.interval-item.result c.rounded.result
    c.loop-interval-test.true c.loop-interval.auto.interval-items c.rounded.ensures c.loop-interval.invariant

pub returns : goal.returns
returns c =
    all_in_units c.args.unit c.loop-interval.interval-index (map ends_of c.args.list.now) (map ends_of c.loop-interval.interval-items)
    (omega (arith, c.loop-interval-test.false, c.loop-interval.auto.interval-items, length-map c.args.list.now ends_of)) c.loop-interval.invariant
