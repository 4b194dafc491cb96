-- The report of the live and the dead nodes of a case.
use Rattle.std.specs.Prelude.{ℕ, Bool, if◌then◌else◌, List, [], ◌∷◌, ◌++◌, map, codes, decimal, count_by}
use Rattle.std.specs.List.{zip}
use Rattle.gic_case.specs.Lists.{Lists, node_names}
use Rattle.gic_report.specs.SharedLines.{Words, word_line}

-- how a report says whether a node is live
abbrev pub state_word : Bool → List ℕ
state_word live = if live then codes "live" else codes "dead"

-- the line of a node, by its name
abbrev pub state_line : List ℕ → Bool → Words
state_line name live = codes "node" ∷ name ∷ state_word live ∷ []

-- the lines of these nodes, in their order
abbrev pub state_lines : List (List ℕ) → List Bool → List Words
state_lines names live = map (λ p. state_line p.0 p.1) (zip names live)

-- the number of live nodes
abbrev pub live_count : List Bool → ℕ
live_count live = count_by (λ b. b) live

-- the line of the number of live nodes
abbrev pub live_count_line : ℕ → Words
live_count_line count = codes "live" ∷ decimal count ∷ []

-- the lines of the report of the nodes, in node order
abbrev pub check_report : Lists → List Bool → List Words
check_report case live =
    word_line (codes "check") ∷ (state_lines (node_names case) live ++ (live_count_line (live_count live) ∷ word_line (codes "end") ∷ []))
