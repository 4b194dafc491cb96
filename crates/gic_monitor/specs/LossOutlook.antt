-- What a monitor of reactive loss would print of further views.
use Rattle.std.specs.Prelude.{ℕ, List, ◌++◌, map, option_map}
use Rattle.std.specs.Option.{option_to_list}
use Rattle.gic_text.specs.Lines.{line_text}
use Rattle.gic_view.specs.View.{View}
use Rattle.gic_monitor.specs.declared.loss.total.SeenTotal.{SeenTotal}
use Rattle.gic_monitor.specs.declared.loss.totals.Totals.{Totals}
use Rattle.gic_monitor.specs.LossText.{Total, loss_total_of, greatest_of, loss_line}

-- a total by the two ends of its interval
abbrev pub total_seen : SeenTotal → Total
total_seen seen = record { number = seen.number; low = seen.ends.lo; high = seen.ends.hi }

-- the line over the totals so far and those of further views
abbrev pub text_behind : (word : List ℕ) → Totals → List View → List ℕ
text_behind word totals views = line_text (loss_line word
    (greatest_of (option_to_list (option_map total_seen totals.greatest) ++ map (loss_total_of totals.factors.items) views)))
