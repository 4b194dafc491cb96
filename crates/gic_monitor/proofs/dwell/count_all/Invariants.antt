use Rattle.std.proofs.Common.{List, ◌∷◌}
use Rattle.gic_view.specs.View.{View}
use Rattle.gic_monitor.specs.Tallies.{tally_line}
use Rattle.gic_monitor.proofs.Walks.{Walked}
use Rattle.gic_monitor.proofs.dwell.count_all.Given as goal

-- each tally behind prints of later views what it was to print of this view and those
abbrev pub invariant-loop-tally : goal.invariant-loop-tally
invariant-loop-tally l = Walked {Y = List View}
    (λ views. tally_line l.threshold views) (λ views. tally_line l.threshold (l.view ∷ views))
    l.initial.tallies l.tallies l.tally-index
