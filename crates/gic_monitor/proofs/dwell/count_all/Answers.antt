use Rattle.std.proofs.Common.{List, ◌∷◌}
use Rattle.gic_view.specs.View.{View}
use Rattle.gic_monitor.specs.Tallies.{tally_line}
use Rattle.gic_monitor.proofs.Walks.{walk}
use Rattle.gic_monitor.proofs.dwell.count_all.Goals as goal

pub loop-tally-preserved : goal.loop-tally-preserved
loop-tally-preserved c = walk {Y = List View}
    (λ views. tally_line c.args.threshold views) (λ views. tally_line c.args.threshold (c.args.view.now ∷ views))
    c.args.tallies.now c.loop-tally.tallies c.loop-tally.tally-index c.tally-item.result c.see.new.self
    c.loop-tally-test.true c.loop-tally.auto.tallies c.see.ensures c.loop-tally.invariant
