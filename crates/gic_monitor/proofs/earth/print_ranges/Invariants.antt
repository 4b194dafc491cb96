use Rattle.std.proofs.Common.{◌≡◌, ◌++◌, map, drop}
use Rattle.gic_text.specs.Lines.{lines_text}
use Rattle.gic_view.specs.Kept.{optional_ends}
use Rattle.gic_monitor.specs.EarthText.{earth_line}
use Rattle.gic_monitor.proofs.earth.print_ranges.Given as goal

-- what was added and the lines that are left are the whole
abbrev pub invariant-loop-seat : goal.invariant-loop-seat
invariant-loop-seat l = l.into.items ++ lines_text (map (λ s. earth_line s.name (optional_ends s.range)) (drop l.seat-index l.ranges))
    ≡ l.fn.into.items ++ lines_text (map (λ s. earth_line s.name (optional_ends s.range)) l.ranges)
