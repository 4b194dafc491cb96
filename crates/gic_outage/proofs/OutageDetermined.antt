-- The text of the report determines what it shows.
use Rattle.std.proofs.Common.{◌≡◌, ◌∙◌, ℕ, ◌<◌, Option, Some, None, List, [], ◌∷◌, ◌++◌, map, length, drop, get_or, refl, sym, ap, subst, arith}
use Rattle.std.proofs.lemmas.List.{length-map}
use Rattle.std.specs.Prelude.{codes, IfSome}
use Rattle.std.specs.List.{AllByRecursion}
use Rattle.std.proofs.lemmas.List.Elements.{recursion_from_All}
use Rattle.gic_base.proofs.Each.{all_joined}
use Rattle.gic_text.specs.Words.{IsWord, IsLine}
use Rattle.gic_text.proofs.Injective.{lines_injective}
use Rattle.gic_text.proofs.Words.{word_from_test}
use Rattle.gic_case.specs.declared.item.Transformer.{Transformer}
use Rattle.gic_case.specs.Lists.{Lists}
use Rattle.gic_fixed.specs.Ends.{Ends}
use Rattle.gic_criteria.specs.declared.criterion.Verdict.{Verdict}
use Rattle.gic_outage.specs.Plan.{plan_of}
use Rattle.gic_report.specs.SharedLines.{Words, word_line}
use Rattle.gic_report.specs.Fits.{AreInRange, HasNames}
use Rattle.gic_report.specs.declared.counts.Counts.{Counts}
use Rattle.gic_report.specs.Counts.{counts_words}
use Rattle.gic_report.proofs.CaseNames.{line_names, transformer_names}
use Rattle.gic_report.proofs.CountsDetermined.{counts_are_words, same_counts}
use Rattle.gic_report.proofs.ViewDetermined.{CellInRange, ends_words, same_ends}
use Rattle.gic_report.proofs.WordsDetermined.{first_of_lines, pair_at, verdict_is_word, word_at}
use Rattle.gic_report.specs.VerdictText.{verdict_in}
use Rattle.gic_worst.specs.Setting.{event_setting_line}
use Rattle.gic_worst.proofs.SettingDetermined.{same_setting, setting_is_line}
use Rattle.gic_winding.specs.ElementList.{item_name}
use Rattle.gic_outage.specs.declared.outcome.OutageOutcome.{OutageOutcome}
use Rattle.gic_outage.specs.declared.outcome.OutageOutcome.TheVariants.{Idle, Unearthed, Unresolved, Solved}
use Rattle.gic_outage.specs.OutageText.{greatest_line, outage_report, outcome_line, outcome_lines, outcome_words, plan_names, greatest_worst_line, greatest_worst_lines}
use Rattle.gic_outage.specs.Determines.{IsShownOutcome, TextDeterminesOutage}
use Rattle.gic_outage.proofs.PlanNames as plan

-- ---- outcomes

counts_length : (counts : Counts) → length (counts_words counts) ≡ 8
unfolding counts_words
counts_length counts = refl

are_outcome_words : (outcome : OutageOutcome) → IsShownOutcome outcome → AllByRecursion IsWord (outcome_words outcome)
are_outcome_words Idle h = (word_from_test (codes "idle") refl, tt)
are_outcome_words (Unearthed node) h = (word_from_test (codes "unearthed") refl, (h, tt))
are_outcome_words (Unresolved node) h = (word_from_test (codes "unresolved") refl, (h, tt))
are_outcome_words (Solved counts) h = counts_are_words counts h

outcome_is_line : (name : List ℕ) (outcome : OutageOutcome) → IsWord name → IsShownOutcome outcome → IsLine (outcome_line name outcome)
unfolding outcome_line
outcome_is_line name outcome n h = (word_from_test (codes "outage") refl, (n, are_outcome_words outcome h))

-- a network that is solved takes eight words
never_solved : (words : Words) (counts : Counts) → length words < 8 → words ≡ counts_words counts → ⊥
never_solved words counts h e = omega (arith, h, ap length e ∙ counts_length counts)

-- the third letter of the first word: e of unearthed, r of unresolved
abbrev letter : Words → ℕ
letter ws = get_or (word_at ws 0) 2 0

same_outcome_words : (x y : OutageOutcome) → IsShownOutcome x → IsShownOutcome y → outcome_words x ≡ outcome_words y → x ≡ y
same_outcome_words Idle Idle h k e = refl
same_outcome_words Idle (Unearthed node) h k e = absurd (let n : ◌≡◌ {A = ℕ} 1 2 = ap length e in omega (arith, n))
same_outcome_words Idle (Unresolved node) h k e = absurd (let n : ◌≡◌ {A = ℕ} 1 2 = ap length e in omega (arith, n))
same_outcome_words Idle (Solved counts) h k e = absurd (never_solved (outcome_words Idle) counts (omega arith) e)
same_outcome_words (Unearthed node) Idle h k e = absurd (let n : ◌≡◌ {A = ℕ} 2 1 = ap length e in omega (arith, n))
same_outcome_words (Unearthed node) (Unearthed other) h k e = ap (λ n. Unearthed n) (ap (λ ws. word_at ws 1) e)
same_outcome_words (Unearthed node) (Unresolved other) h k e = absurd (let n : ◌≡◌ {A = ℕ} 101 114 = ap (λ ws. letter ws) e in omega (arith, n))
same_outcome_words (Unearthed node) (Solved counts) h k e = absurd (never_solved (outcome_words (Unearthed node)) counts (omega arith) e)
same_outcome_words (Unresolved node) Idle h k e = absurd (let n : ◌≡◌ {A = ℕ} 2 1 = ap length e in omega (arith, n))
same_outcome_words (Unresolved node) (Unearthed other) h k e = absurd (let n : ◌≡◌ {A = ℕ} 114 101 = ap (λ ws. letter ws) e in omega (arith, n))
same_outcome_words (Unresolved node) (Unresolved other) h k e = ap (λ n. Unresolved n) (ap (λ ws. word_at ws 1) e)
same_outcome_words (Unresolved node) (Solved counts) h k e = absurd (never_solved (outcome_words (Unresolved node)) counts (omega arith) e)
same_outcome_words (Solved counts) Idle h k e = absurd (never_solved (outcome_words Idle) counts (omega arith) (sym e))
same_outcome_words (Solved counts) (Unearthed node) h k e = absurd (never_solved (outcome_words (Unearthed node)) counts (omega arith) (sym e))
same_outcome_words (Solved counts) (Unresolved node) h k e = absurd (never_solved (outcome_words (Unresolved node)) counts (omega arith) (sym e))
same_outcome_words (Solved counts) (Solved others) h k e = ap (λ c. Solved c) (same_counts counts others h k e)

same_outcome : (name : List ℕ) (x y : OutageOutcome) → IsShownOutcome x → IsShownOutcome y → outcome_line name x ≡ outcome_line name y → x ≡ y
unfolding outcome_line
same_outcome name x y h k e = same_outcome_words x y h k (ap (λ ws. drop 2 ws) e)

are_outcome_lines : (names : List (List ℕ)) (outcomes : List OutageOutcome) (rest : List Words) → AllByRecursion IsWord names → AllByRecursion IsShownOutcome outcomes → AllByRecursion IsLine rest
    → AllByRecursion IsLine (outcome_lines names outcomes ++ rest)
are_outcome_lines [] outcomes rest n h k = k
are_outcome_lines (name ∷ names) [] rest n h k = k
are_outcome_lines (name ∷ names) (outcome ∷ outcomes) rest n h k = (outcome_is_line name outcome n.0 h.0, are_outcome_lines names outcomes rest n.1 h.1 k)

-- the lines of the outages determine how each ends, and what comes after them
same_outcomes : (names : List (List ℕ)) (xs ys : List OutageOutcome) (rest others : List Words) → length xs ≡ length names → length ys ≡ length names
    → AllByRecursion IsShownOutcome xs → AllByRecursion IsShownOutcome ys → outcome_lines names xs ++ rest ≡ outcome_lines names ys ++ others → (xs ≡ ys) × (rest ≡ others)
same_outcomes [] [] [] rest others p q h k e = (refl, e)
same_outcomes [] [] (y ∷ ys) rest others p q h k e = absurd (omega (arith, q))
same_outcomes [] (x ∷ xs) ys rest others p q h k e = absurd (omega (arith, p))
same_outcomes (name ∷ names) [] ys rest others p q h k e = absurd (omega (arith, p))
same_outcomes (name ∷ names) (x ∷ xs) [] rest others p q h k e = absurd (omega (arith, q))
same_outcomes (name ∷ names) (x ∷ xs) (y ∷ ys) rest others p q h k e =
    let both : outcome_line name x ∷ (outcome_lines names xs ++ rest) ≡ outcome_line name y ∷ (outcome_lines names ys ++ others) = e in
    let line : outcome_line name x ≡ outcome_line name y = cc in
    let later : outcome_lines names xs ++ rest ≡ outcome_lines names ys ++ others = cc in
    let here = same_outcome name x y h.0 k.0 line in
    let more = same_outcomes names xs ys rest others (omega (arith, p)) (omega (arith, q)) h.1 k.1 later in
    (ap (λ z. z ∷ xs) here ∙ ap (λ zs. y ∷ zs) more.0, more.1)

-- ---- transformers

greatest_is_line : (name : List ℕ) (e : Ends) (said : Verdict) → IsWord name → AreInRange e → IsLine (greatest_line name e said)
unfolding greatest_line
greatest_is_line name e said n fits =
    let words = ends_words e fits in
    (word_from_test (codes "transformer") refl, (n, (word_from_test (codes "worst") refl, (words.0, (words.1.0, (verdict_is_word said, tt))))))

transformer_is_line : (threshold : ℕ) (t : Transformer) (cell : Option Ends) → IsWord t.name → CellInRange cell → IsLine (greatest_worst_line threshold t cell)
transformer_is_line threshold t None n h = (word_from_test (codes "transformer") refl, (n, (word_from_test (codes "none") refl, tt)))
transformer_is_line threshold t (Some e) n h = greatest_is_line t.name e (verdict_in threshold t e) n h

are_transformer_lines : (threshold : ℕ) (ts : List Transformer) (cells : List (Option Ends)) → AllByRecursion IsWord (map (λ t. t.name) ts) → AllByRecursion CellInRange cells
    → AllByRecursion IsLine (greatest_worst_lines threshold ts cells ++ word_line (codes "end") ∷ [])
are_transformer_lines threshold [] cells names h = ((word_from_test (codes "end") refl, tt), tt)
are_transformer_lines threshold (t ∷ ts) [] names h = ((word_from_test (codes "end") refl, tt), tt)
are_transformer_lines threshold (t ∷ ts) (cell ∷ cells) names h = (transformer_is_line threshold t cell names.0 h.0, are_transformer_lines threshold ts cells names.1 h.1)

greatest_length : (name : List ℕ) (e : Ends) (said : Verdict) → length (greatest_line name e said) ≡ 6
unfolding greatest_line
greatest_length name e said = refl

same_greatest : (name : List ℕ) (e f : Ends) (said told : Verdict) → AreInRange e → AreInRange f → greatest_line name e said ≡ greatest_line name f told → e ≡ f
unfolding greatest_line
same_greatest name e f said told h k same = same_ends e f h k (ap (λ ws. pair_at ws 3) same)

-- the line of a transformer determines its greatest interval
same_cell : (threshold threshold' : ℕ) (t : Transformer) (x y : Option Ends) → CellInRange x → CellInRange y → greatest_worst_line threshold t x ≡ greatest_worst_line threshold' t y → x ≡ y
same_cell threshold threshold' t None None h k e = refl
same_cell threshold threshold' t None (Some f) h k e = absurd (let n : ◌≡◌ {A = ℕ} 3 6 = ap length e ∙ greatest_length t.name f (verdict_in threshold' t f) in omega (arith, n))
same_cell threshold threshold' t (Some f) None h k e = absurd (let n : ◌≡◌ {A = ℕ} 6 3 = sym (greatest_length t.name f (verdict_in threshold t f)) ∙ ap length e in omega (arith, n))
same_cell threshold threshold' t (Some f) (Some g) h k e = ap (λ z. Some z) (same_greatest t.name f g (verdict_in threshold t f) (verdict_in threshold' t g) h k e)

-- the lines of the transformers determine their greatest intervals
same_cells : (threshold threshold' : ℕ) (ts : List Transformer) (xs ys : List (Option Ends)) → length xs ≡ length ts → length ys ≡ length ts → AllByRecursion CellInRange xs → AllByRecursion CellInRange ys
    → greatest_worst_lines threshold ts xs ++ word_line (codes "end") ∷ [] ≡ greatest_worst_lines threshold' ts ys ++ word_line (codes "end") ∷ [] → xs ≡ ys
same_cells threshold threshold' [] [] [] p q h k e = refl
same_cells threshold threshold' [] [] (y ∷ ys) p q h k e = absurd (omega (arith, q))
same_cells threshold threshold' [] (x ∷ xs) ys p q h k e = absurd (omega (arith, p))
same_cells threshold threshold' (t ∷ ts) [] ys p q h k e = absurd (omega (arith, p))
same_cells threshold threshold' (t ∷ ts) (x ∷ xs) [] p q h k e = absurd (omega (arith, q))
same_cells threshold threshold' (t ∷ ts) (x ∷ xs) (y ∷ ys) p q h k e =
    let both : greatest_worst_line threshold t x ∷ (greatest_worst_lines threshold ts xs ++ word_line (codes "end") ∷ []) ≡ greatest_worst_line threshold' t y ∷ (greatest_worst_lines threshold' ts ys ++ word_line (codes "end") ∷ []) = e in
    let line : greatest_worst_line threshold t x ≡ greatest_worst_line threshold' t y = cc in
    let later : greatest_worst_lines threshold ts xs ++ word_line (codes "end") ∷ [] ≡ greatest_worst_lines threshold' ts ys ++ word_line (codes "end") ∷ [] = cc in
    let here = same_cell threshold threshold' t x y h.0 k.0 line in
    let more = same_cells threshold threshold' ts xs ys (omega (arith, p)) (omega (arith, q)) h.1 k.1 later in
    ap (λ z. z ∷ xs) here ∙ ap (λ zs. y ∷ zs) more

-- ---- the report

plan_words : (case : Lists) → HasNames case → AllByRecursion IsWord (plan_names case)
plan_words case named =
    subst (AllByRecursion IsWord) (sym (plan.in_turn case)) (all_joined IsWord (plan.line_names case) (plan.transformer_names case) (line_names case named) (transformer_names case named))

-- the text of the report determines all that it shows
pub report_determined : TextDeterminesOutage
report_determined case named width threshold field outcomes greatest width' threshold' field' outcomes' greatest' p q e =
    let ts = case.transformers in
    let names = plan_names case in
    let fit = recursion_from_All IsShownOutcome outcomes p.outcomes_fit in
    let fit' = recursion_from_All IsShownOutcome outcomes' q.outcomes_fit in
    let cells = recursion_from_All (λ cell. IfSome cell AreInRange) greatest p.greatest_fit in
    let cells' = recursion_from_All (λ cell. IfSome cell AreInRange) greatest' q.greatest_fit in
    let words = plan_words case named in
    let transformers = transformer_names case named in
    let rest = greatest_worst_lines threshold ts greatest ++ word_line (codes "end") ∷ [] in
    let rest' = greatest_worst_lines threshold' ts greatest' ++ word_line (codes "end") ∷ [] in
    let count = length-map (plan_of case) (item_name case) in
    let lines = lines_injective (outage_report case width threshold field outcomes greatest) (outage_report case width' threshold' field' outcomes' greatest')
    ((word_from_test (codes "outage") refl, tt), (setting_is_line width threshold field p.width_fits p.threshold_fits p.field_fits, are_outcome_lines names outcomes rest words fit (are_transformer_lines threshold ts greatest transformers cells)))
    ((word_from_test (codes "outage") refl, tt), (setting_is_line width' threshold' field' q.width_fits q.threshold_fits q.field_fits, are_outcome_lines names outcomes' rest' words fit' (are_transformer_lines threshold' ts greatest' transformers cells'))) e in
    let setting : event_setting_line width threshold field ≡ event_setting_line width' threshold' field' = ap (λ ls. first_of_lines ls) (ap (drop 1) lines) in
    let asked = same_setting width threshold field width' threshold' field' p.width_fits p.threshold_fits p.field_fits q.width_fits q.threshold_fits q.field_fits setting in
    let later : outcome_lines names outcomes ++ rest ≡ outcome_lines names outcomes' ++ rest' = ap (drop 2) lines in
    let items = same_outcomes names outcomes outcomes' rest rest' (p.outcome_count ∙ sym count) (q.outcome_count ∙ sym count) fit fit' later in
    record {
      same_width = asked.same_width;
      same_threshold = asked.same_threshold;
      same_field = asked.same_field;
      same_outcomes = items.0;
      same_greatest = same_cells threshold threshold' ts greatest greatest' p.greatest_count q.greatest_count cells cells' items.1;
    }
