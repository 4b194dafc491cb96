-- The text of the report determines what it shows.
use Rattle.std.proofs.Common.{◌∙◌, ℕ, List, [], get_or, refl, ap, arith}
use Rattle.std.specs.Prelude.{codes}
use Rattle.std.specs.List.{AllByRecursion}
use Rattle.gic_text.specs.Words.{IsLine}
use Rattle.gic_text.proofs.Injective.{lines_injective}
use Rattle.gic_text.proofs.Words.{word_from_test}
use Rattle.gic_report.specs.SharedLines.{Words}
use Rattle.gic_report.proofs.CountsDetermined.{counts_are_line, same_counts}
use Rattle.gic_report.proofs.WordsDetermined.{same_natural, same_small, word_at, word_of_natural}
use Rattle.gic_report.specs.declared.counts.Counts.{Counts}
use Rattle.gic_make.specs.declared.text.Summary.{Summary}
use Rattle.gic_make.specs.MakeText.{make_report}
use Rattle.gic_make.specs.Determines.{AreShown, TextDeterminesMake}

-- the line at a place of a report
abbrev line_at : List Words → ℕ → Words
line_at ls k = get_or ls k []

-- the lines of a report are such
are_lines : (seed size : ℕ) (shown : Summary) → AreShown seed size shown → AllByRecursion IsLine (make_report seed size shown)
are_lines seed size shown fit = (
  (word_from_test (codes "make") refl, tt),
  (
    (word_from_test (codes "seed") refl, (word_of_natural seed fit.seed_fits, (word_from_test (codes "size") refl, (word_of_natural size (omega (arith, fit.size_fits)), tt)))),
    (
      (
        word_from_test (codes "nodes") refl,
        (word_of_natural shown.nodes (omega (arith, fit.nodes_fit)), (word_from_test (codes "elements") refl, (word_of_natural shown.elements (omega (arith, fit.elements_fit)), tt))),
      ),
      (
        (word_from_test (codes "walk") refl, (word_of_natural shown.walk (omega (arith, fit.walk_fits)), tt)),
        (counts_are_line shown.counts fit.counts_fit, ((word_from_test (codes "end") refl, tt), tt)),
      ),
    ),
  ),
)

abbrev summary_with : ℕ → ℕ → ℕ → Counts → Summary
summary_with a b c d = record { nodes = a; elements = b; walk = c; counts = d }

-- the text of the report determines all that it shows
pub report_determined : TextDeterminesMake
report_determined seed size shown seed' size' shown' fit fit' e =
    let lines = lines_injective (make_report seed size shown) (make_report seed' size' shown') (are_lines seed size shown fit) (are_lines seed' size' shown' fit') e in
    let nodes = same_small shown.nodes shown'.nodes fit.nodes_fit fit'.nodes_fit (ap (λ ls. word_at (line_at ls 2) 1) lines) in
    let elements = same_small shown.elements shown'.elements fit.elements_fit fit'.elements_fit (ap (λ ls. word_at (line_at ls 2) 3) lines) in
    let walk = same_small shown.walk shown'.walk fit.walk_fits fit'.walk_fits (ap (λ ls. word_at (line_at ls 3) 1) lines) in
    let counts = same_counts shown.counts shown'.counts fit.counts_fit fit'.counts_fit (ap (λ ls. line_at ls 4) lines) in
    record {
      same_seed = same_natural seed seed' fit.seed_fits fit'.seed_fits (ap (λ ls. word_at (line_at ls 1) 1) lines);
      same_size = same_small size size' fit.size_fits fit'.size_fits (ap (λ ls. word_at (line_at ls 1) 3) lines);
      same_summary = ap (λ a. summary_with a shown.elements shown.walk shown.counts) nodes
          ∙ ap (λ b. summary_with shown'.nodes b shown.walk shown.counts) elements
          ∙ ap (λ c. summary_with shown'.nodes shown'.elements c shown.counts) walk
          ∙ ap (λ d. summary_with shown'.nodes shown'.elements shown'.walk d) counts;
    }
