use Rattle.std.proofs.Common.{List}
use Rattle.gic_view.specs.View.{View}
use Rattle.gic_monitor.proofs.Walks.{Walked}
use Rattle.gic_monitor.proofs.board.begin_all.Given as goal

-- each monitor behind prints of any views what it was to print of the roster and those
abbrev pub invariant-loop-monitor : goal.invariant-loop-monitor
invariant-loop-monitor g l = Walked {Y = List View}
    (λ views m. (goal.Monitor-dyn g (m.vtable, m.value)).outlook m.value views)
    (λ views m. (goal.Monitor-dyn g (m.vtable, m.value)).plan m.value l.roster views)
    l.initial.monitors l.monitors l.monitor-index
