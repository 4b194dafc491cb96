-- The report of a made case.
use Rattle.std.specs.Prelude.{ℕ, List, [], ◌∷◌, ◌++◌, codes, decimal}
use Rattle.gic_text.specs.Lines.{lines_text}
use Rattle.gic_report.specs.Counts.{counts_words}
use Rattle.gic_report.specs.SharedLines.{Words, word_line, sizes_line}
use Rattle.gic_make.specs.declared.text.Summary.{Summary}

-- the line of what is asked
abbrev pub seed_line : (seed size : ℕ) → Words
seed_line seed size = codes "seed" ∷ decimal seed ∷ codes "size" ∷ decimal size ∷ []

-- the line of the greatest entry of the least capped vector
abbrev pub walk_line : (walk : ℕ) → Words
walk_line walk = codes "walk" ∷ decimal walk ∷ []

-- the lines of what is shown
abbrev pub summary_lines : Summary → List Words
summary_lines shown = sizes_line shown.nodes shown.elements ∷ walk_line shown.walk ∷ counts_words shown.counts ∷ []

-- the lines of the report, and their text
abbrev pub make_report : (seed size : ℕ) → Summary → List Words
make_report seed size shown = word_line (codes "make") ∷ seed_line seed size ∷ (summary_lines shown ++ word_line (codes "end") ∷ [])

abbrev pub make_text : (seed size : ℕ) → Summary → List ℕ
make_text seed size shown = lines_text (make_report seed size shown)
