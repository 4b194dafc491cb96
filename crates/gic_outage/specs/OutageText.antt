-- The report of one item out at a time.
use Rattle.std.specs.Prelude.{ℕ, ℤ, List, [], ◌∷◌, ◌++◌, codes, map, Option, None, Some}
use Rattle.std.specs.Fmt.{signed_decimal}
use Rattle.gic_case.specs.declared.item.Transformer.{Transformer}
use Rattle.gic_case.specs.Lists.{Lists}
use Rattle.gic_fixed.specs.Ends.{Ends}
use Rattle.gic_criteria.specs.declared.criterion.Verdict.{Verdict}
use Rattle.gic_criteria.specs.Event.{threshold_of, field_of}
use Rattle.gic_text.specs.Lines.{lines_text}
use Rattle.gic_criteria.specs.declared.asked.Criteria.{Criteria}
use Rattle.gic_outage.specs.Plan.{plan_of}
use Rattle.gic_report.specs.Counts.{counts_words}
use Rattle.gic_report.specs.SharedLines.{Words, word_line}
use Rattle.gic_report.specs.VerdictText.{verdict_in, verdict_word}
use Rattle.gic_worst.specs.Setting.{event_setting_line}
use Rattle.gic_winding.specs.ElementList.{item_name}
use Rattle.gic_outage.specs.declared.outcome.OutageOutcome.{OutageOutcome}
use Rattle.gic_outage.specs.declared.outcome.OutageOutcome.TheVariants.{Idle, Unearthed, Unresolved, Solved}

-- how an outage ends, in words
abbrev pub outcome_words : OutageOutcome → Words
outcome_words Idle = codes "idle" ∷ []
outcome_words (Unearthed node) = codes "unearthed" ∷ node ∷ []
outcome_words (Unresolved node) = codes "unresolved" ∷ node ∷ []
outcome_words (Solved counts) = counts_words counts

-- the line of an outage: the name of its item, and how it ends
unfoldable pub outcome_line : (name : List ℕ) → OutageOutcome → Words
outcome_line name outcome = codes "outage" ∷ name ∷ outcome_words outcome

-- per item of these names
abbrev pub outcome_lines : (names : List (List ℕ)) → List OutageOutcome → List Words
outcome_lines [] outcomes = []
outcome_lines (name ∷ names) [] = []
outcome_lines (name ∷ names) (outcome ∷ outcomes) = outcome_line name outcome ∷ outcome_lines names outcomes

-- the line of a transformer's greatest worst interval and the verdict on it
unfoldable pub greatest_line : (name : List ℕ) → Ends → Verdict → Words
greatest_line name e said = codes "transformer" ∷ name ∷ codes "worst" ∷ signed_decimal e.low ∷ signed_decimal e.high ∷ verdict_word said ∷ []

-- the line of a transformer that no outage shows
abbrev pub none_line : (name : List ℕ) → Words
none_line name = codes "transformer" ∷ name ∷ codes "none" ∷ []

-- the line of a transformer, by its greatest worst interval
abbrev pub greatest_worst_line : (threshold : ℕ) → Transformer → Option Ends → Words
greatest_worst_line threshold t None = none_line t.name
greatest_worst_line threshold t (Some e) = greatest_line t.name e (verdict_in threshold t e)

-- per transformer
abbrev pub greatest_worst_lines : (threshold : ℕ) → List Transformer → List (Option Ends) → List Words
greatest_worst_lines threshold [] greatest = []
greatest_worst_lines threshold (t ∷ ts) [] = []
greatest_worst_lines threshold (t ∷ ts) (e ∷ es) = greatest_worst_line threshold t e ∷ greatest_worst_lines threshold ts es

-- the names of the items of the plan
abbrev pub plan_names : Lists → List (List ℕ)
plan_names case = map (item_name case) (plan_of case)

-- the lines of the report
abbrev pub outage_report : Lists → (width threshold : ℕ) → (field : ℤ) → List OutageOutcome → List (Option Ends) → List Words
outage_report case width threshold field outcomes greatest =
    word_line (codes "outage") ∷ event_setting_line width threshold field
    ∷ (outcome_lines (plan_names case) outcomes ++ (greatest_worst_lines threshold case.transformers greatest ++ word_line (codes "end") ∷ []))

-- their text
abbrev pub outage_text : Lists → Criteria → List OutageOutcome → List (Option Ends) → List ℕ
outage_text case criteria outcomes greatest = lines_text (outage_report case criteria.width (threshold_of criteria.event) (field_of criteria.event) outcomes greatest)
