use Rattle.std.proofs.Common.{List}
use Rattle.gic_view.specs.View.{View}
use Rattle.gic_monitor.proofs.Walks.{walk, walked}
use Rattle.gic_monitor.proofs.board.begin_all.Goals as goal

pub loop-monitor-preserved : goal.loop-monitor-preserved
loop-monitor-preserved g c = walk {Y = List View}
    (λ views m. (goal.Monitor-dyn g (m.vtable, m.value)).outlook m.value views)
    (λ views m. (goal.Monitor-dyn g (m.vtable, m.value)).plan m.value c.args.roster.now views)
    c.args.monitors.now c.loop-monitor.monitors c.loop-monitor.monitor-index c.monitor-item.result c.begin_one.new.monitor
    c.loop-monitor-test.true c.loop-monitor.auto.monitors c.in_ok-begin_one.ensures c.loop-monitor.invariant

pub returns : goal.returns
returns g c = walked {Y = List View}
    (λ views m. (goal.Monitor-dyn g (m.vtable, m.value)).outlook m.value views)
    (λ views m. (goal.Monitor-dyn g (m.vtable, m.value)).plan m.value c.args.roster.now views)
    c.args.monitors.now c.loop-monitor.monitors c.loop-monitor.monitor-index
    c.loop-monitor-test.false c.loop-monitor.auto.monitors c.loop-monitor.invariant
