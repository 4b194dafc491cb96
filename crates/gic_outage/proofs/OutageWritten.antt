-- The report as it is written: two lines, the lines of the outages, those of the transformers, and a last one.
use Rattle.std.proofs.Common.{◌≡◌, ◌∙◌, ℕ, zero, suc, ◌+◌, ◌<◌, List, [], ◌∷◌, ◌++◌, Some, None, drop, get_or, length, sym, ap, refl, append-nil, add-one, drop-cons}
use Rattle.std.specs.List.{slice_get}
use Rattle.std.proofs.lemmas.Option.{slice_get_within, get_or_from_slice_get}
use Rattle.gic_text.specs.Lines.{line_text, lines_text}
use Rattle.gic_text.proofs.Joined.{lines_text-append}
use Rattle.gic_report.specs.SharedLines.{Words}
use Rattle.gic_outage.specs.declared.outcome.OutageOutcome.{OutageOutcome}
use Rattle.gic_outage.specs.OutageText.{outcome_line, outcome_lines}

-- ---- lines of outages

-- what is left begins with the line of the next outage
pub next_outcome : (names : List (List ℕ)) (outcomes : List OutageOutcome) (i : ℕ) (name : List ℕ) (outcome : OutageOutcome) → slice_get names i ≡ Some name → i < length outcomes → get_or outcomes i outcome ≡ outcome
    → lines_text (outcome_lines (drop i names) (drop i outcomes)) ≡ line_text (outcome_line name outcome) ++ lines_text (outcome_lines (drop (i + 1) names) (drop (i + 1) outcomes))
next_outcome names outcomes i name outcome e h f =
    ap (λ l. lines_text (outcome_lines l (drop i outcomes))) (drop-cons names i name (slice_get_within names i name e))
    ∙ ap (λ l. lines_text (outcome_lines (get_or names i name ∷ drop (suc i) names) l)) (drop-cons outcomes i outcome h)
    ∙ ap (λ n. line_text (outcome_line n (get_or outcomes i outcome)) ++ lines_text (outcome_lines (drop (suc i) names) (drop (suc i) outcomes))) (get_or_from_slice_get names i name name e)
    ∙ ap (λ o. line_text (outcome_line name o) ++ lines_text (outcome_lines (drop (suc i) names) (drop (suc i) outcomes))) f
    ∙ ap (λ k. line_text (outcome_line name outcome) ++ lines_text (outcome_lines (drop k names) (drop k outcomes))) (sym (add-one i))

-- where no name is left, nothing
pub no_name_left : (names : List (List ℕ)) (outcomes : List OutageOutcome) (i : ℕ) → slice_get names i ≡ None → lines_text (outcome_lines (drop i names) outcomes) ≡ []
no_name_left [] outcomes zero e = refl
no_name_left [] outcomes (suc i) e = refl
no_name_left (name ∷ names) outcomes zero e = absurd (let f : Some name ≡ None = e in cc)
no_name_left (name ∷ names) outcomes (suc i) e = no_name_left names outcomes i e

-- nor where no outcome is
pub no_outcome_left : (names : List (List ℕ)) (outcomes : List OutageOutcome) → outcomes ≡ [] → lines_text (outcome_lines names outcomes) ≡ []
no_outcome_left [] outcomes e = refl
no_outcome_left (name ∷ names) [] e = refl
no_outcome_left (name ∷ names) (outcome ∷ outcomes) e = absurd (let f : outcome ∷ outcomes ≡ [] = e in cc)

-- ---- the whole report

-- the text in the pieces in which it is written
pub framed_blocks : (first second : Words) (outages transformers : List Words) (last : Words)
    → line_text first ++ (line_text second ++ (lines_text outages ++ (lines_text transformers ++ line_text last))) ≡ lines_text (first ∷ second ∷ (outages ++ (transformers ++ last ∷ [])))
framed_blocks first second outages transformers last =
    sym (ap (λ l. line_text first ++ (line_text second ++ l)) (lines_text-append outages (transformers ++ last ∷ [])
    ∙ ap (λ l. lines_text outages ++ l) (lines_text-append transformers (last ∷ []) ∙ ap (λ l. lines_text transformers ++ l) (append-nil (line_text last)))))
