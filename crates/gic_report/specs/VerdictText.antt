-- The verdicts on the transformers of a view, and their lines.
use Rattle.std.specs.Prelude.{◌≡◌, ◌<◌, length, slice_index_or, ℕ, Bool, List, [], ◌∷◌, codes, pos, ◌<ℤ◌, ◌≤ℤ◌}
use Rattle.std.specs.Fmt.{signed_decimal}
use Rattle.gic_view.specs.View.{View, effective_at}
use Rattle.gic_view.specs.Absolute.{absolute_ends}
use Rattle.gic_fixed.specs.Ends.{Ends}
use Rattle.gic_case.specs.declared.item.Transformer.{Transformer}
use Rattle.gic_case.specs.Lists.{Lists, has_effect}
use Rattle.gic_winding.specs.Weights.{transformer_at}
use Rattle.gic_criteria.specs.declared.criterion.Verdict.{Verdict}
use Rattle.gic_criteria.specs.declared.criterion.Verdict.TheVariants.{Below, Reaches, Undecided, Outside}
use Rattle.gic_criteria.specs.Verdict.{is_assessed, verdict_of}
use Rattle.gic_report.specs.SharedLines.{Words}
use Rattle.gic_report.specs.ItemText.{per_transformer}

-- the transformer at a place of the case is assessed, as NERC TPL-007 asks, whatever neutral device there is: its verdict isn't outside
abbrev pub is_judged : Lists → (t : ℕ) → Bool
is_judged case t = is_assessed (transformer_at case t).high_volts (has_effect (transformer_at case t).kind)

-- the interval lies across a threshold in mA: it begins under it, and doesn't end under it
abbrev pub IsAcross : (threshold : ℕ) → Ends → Type 0
IsAcross threshold ends = (ends.low <ℤ pos threshold) × (pos threshold ≤ℤ ends.high)

-- the verdict on a transformer whose absolute current is in this interval, against a threshold in mA
abbrev pub verdict_in : (threshold : ℕ) → Transformer → Ends → Verdict
verdict_in threshold t e = verdict_of e.low e.high threshold t.high_volts (has_effect t.kind)

-- the same of one whose signed effective current is in it
abbrev pub verdict_on : (threshold : ℕ) → Transformer → Ends → Verdict
verdict_on threshold t e = verdict_in threshold t (absolute_ends e)

-- the verdict on the transformer at a place of the case
abbrev pub verdict_at : Lists → (threshold : ℕ) → View → (place : ℕ) → Verdict
verdict_at case threshold view place = verdict_on threshold (transformer_at case place) (effective_at view place)

-- how a report names a verdict
abbrev pub verdict_word : Verdict → List ℕ
verdict_word Below = codes "below"
verdict_word Reaches = codes "reaches"
verdict_word Undecided = codes "undecided"
verdict_word Outside = codes "outside"

-- the line of a verdict: the transformer's name, its absolute effective interval, and the verdict on it
unfoldable pub judged_line : (name : List ℕ) → Ends → Verdict → Words
judged_line name e v = codes "transformer" ∷ name ∷ signed_decimal e.low ∷ signed_decimal e.high ∷ verdict_word v ∷ []

-- the line of a transformer, by its absolute effective interval, and by its signed one
abbrev pub absolute_line : (threshold : ℕ) → Transformer → Ends → Words
absolute_line threshold t e = judged_line t.name e (verdict_in threshold t e)

abbrev pub transformer_line : (threshold : ℕ) → Transformer → Ends → Words
transformer_line threshold t e = absolute_line threshold t (absolute_ends e)

-- per transformer
abbrev pub absolute_lines : (threshold : ℕ) → List Transformer → List Ends → List Words
absolute_lines threshold = per_transformer (absolute_line threshold)

abbrev pub transformer_lines : (threshold : ℕ) → List Transformer → List Ends → List Words
transformer_lines threshold = per_transformer (transformer_line threshold)

-- the line of the transformer at each place shows its absolute effective interval and the verdict on it
abbrev pub ShowsVerdicts : Type 0
ShowsVerdicts = (case : Lists) (threshold : ℕ) (view : View) (place : ℕ) → place < length case.transformers →
    slice_index_or (transformer_lines threshold case.transformers view.effective) place []
    ≡ judged_line (transformer_at case place).name (absolute_ends (effective_at view place)) (verdict_at case threshold view place)
