-- What a monitor of dwells would print of further views.
use Rattle.std.specs.Prelude.{ℕ, ◌+◌, List, map}
use Rattle.gic_text.specs.Lines.{lines_text}
use Rattle.gic_view.specs.View.{View}
use Rattle.gic_monitor.specs.declared.roster.Rated.{Rated}
use Rattle.gic_monitor.specs.declared.dwell.Tally.{Tally}
use Rattle.gic_monitor.specs.DwellText.{certain_count, possible_count, dwell_line}

-- the line of a unit that was counted so far, over further views
abbrev pub tally_line : (threshold : ℕ) → List View → Tally → List (List ℕ)
tally_line threshold views tally =
    dwell_line tally.name (tally.certain + certain_count threshold tally.unit views) (tally.possible + possible_count threshold tally.unit views)

-- a line for each unit, in order
abbrev pub tally_text : (threshold : ℕ) → List Tally → List View → List ℕ
tally_text threshold tallies views = lines_text (map (tally_line threshold views) tallies)

-- a unit of which no view was counted
abbrev pub fresh_tally : ℕ × Rated → Tally
fresh_tally (unit, rated) = record { name = rated.name; unit = unit; certain = 0; possible = 0 }
