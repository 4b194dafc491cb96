use Rattle.std.proofs.Common.{List, ◌∷◌}
use Rattle.gic_view.specs.View.{View}
use Rattle.gic_monitor.proofs.Walks.{Walked}
use Rattle.gic_monitor.proofs.board.show_all.Given as goal

-- each monitor behind prints of later views what it was to print of this view and those
abbrev pub invariant-loop-monitor : goal.invariant-loop-monitor
invariant-loop-monitor g l = Walked {Y = List View}
    (λ views m. (goal.Monitor-dyn g (m.vtable, m.value)).outlook m.value views)
    (λ views m. (goal.Monitor-dyn g (m.vtable, m.value)).outlook m.value (l.view ∷ views))
    l.initial.monitors l.monitors l.monitor-index
