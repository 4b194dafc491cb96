use Rattle.std.proofs.Common.{◌≡◌, ◌++◌, map, drop}
use Rattle.gic_text.specs.Lines.{lines_text}
use Rattle.gic_monitor.specs.DwellText.{dwell_line}
use Rattle.gic_monitor.proofs.dwell.print_tallies.Given as goal

-- what was added and the lines that are left are the whole
abbrev pub invariant-loop-tally : goal.invariant-loop-tally
invariant-loop-tally l = l.into.items ++ lines_text (map (λ t. dwell_line t.name t.certain t.possible) (drop l.tally-index l.tallies))
    ≡ l.fn.into.items ++ lines_text (map (λ t. dwell_line t.name t.certain t.possible) l.tallies)
