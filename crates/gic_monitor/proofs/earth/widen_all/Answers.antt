use Rattle.std.proofs.Common.{List, ◌∷◌}
use Rattle.gic_view.specs.View.{View}
use Rattle.gic_monitor.specs.Ranges.{range_line}
use Rattle.gic_monitor.proofs.Walks.{walk}
use Rattle.gic_monitor.proofs.earth.widen_all.Goals as goal

pub loop-seat-preserved : goal.loop-seat-preserved
loop-seat-preserved c = walk {Y = List View}
    range_line (λ views. range_line (c.args.view.now ∷ views))
    c.args.ranges.now c.loop-seat.ranges c.loop-seat.seat-index c.seat-item.result c.see.new.self
    c.loop-seat-test.true c.loop-seat.auto.ranges c.see.ensures c.loop-seat.invariant
