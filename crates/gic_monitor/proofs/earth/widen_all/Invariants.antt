use Rattle.std.proofs.Common.{List, ◌∷◌}
use Rattle.gic_view.specs.View.{View}
use Rattle.gic_monitor.specs.Ranges.{range_line}
use Rattle.gic_monitor.proofs.Walks.{Walked}
use Rattle.gic_monitor.proofs.earth.widen_all.Given as goal

-- each earthing behind prints of later views what it was to print of this view and those
abbrev pub invariant-loop-seat : goal.invariant-loop-seat
invariant-loop-seat l = Walked {Y = List View}
    range_line (λ views. range_line (l.view ∷ views))
    l.initial.ranges l.ranges l.seat-index
