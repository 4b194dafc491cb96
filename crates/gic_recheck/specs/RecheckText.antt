-- The report of the potentials that a certificate shows.
use Rattle.std.specs.Prelude.{ℕ, ℤ, List, [], ◌∷◌, ◌++◌, filter_map, codes, Option, None, Some}
use Rattle.std.specs.List.{zip}
use Rattle.gic_fixed.specs.Ends.{Ends}
use Rattle.gic_case.specs.Lists.{Lists, node_names}
use Rattle.gic_report.specs.SharedLines.{Words, word_line, field_line}
use Rattle.gic_report.specs.ItemText.{ends_words}

-- the line of a live node, with an interval in mV; a dead node has no line
abbrev pub potential_line : (name : List ℕ) → Option Ends → Option Words
potential_line name None = None
potential_line name (Some ends) = Some (codes "node" ∷ name ∷ ends_words ends)

-- the lines of the nodes of these names, in node order
abbrev pub potential_lines : List (List ℕ) → List (Option Ends) → List Words
potential_lines names intervals = filter_map (λ p. potential_line p.0 p.1) (zip names intervals)

-- the lines of the report, for a field in mV/km
abbrev pub recheck_report : Lists → (north east : ℤ) → List (Option Ends) → List Words
recheck_report case north east intervals =
    word_line (codes "recheck") ∷ field_line north east ∷ (potential_lines (node_names case) intervals ++ word_line (codes "end") ∷ [])
