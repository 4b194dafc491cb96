-- The texts of monitors are determined by the bytes that show them, whatever bytes they hold.
use Rattle.std.proofs.Common.{◌≡◌, ◌∙◌, ℕ, ◌+◌, ◌<◌, ◌≤◌, ◌^◌, List, [], ◌∷◌, ◌++◌, length, get_or, refl, sym, ap, arith, append_assoc}
use Rattle.std.specs.Prelude.{codes}
use Rattle.std.specs.List.{AllByRecursion}
use Rattle.gic_text.specs.Lines.{line_text}
use Rattle.gic_text.specs.Words.{IsLine}
use Rattle.gic_text.proofs.Words.{word_from_test, word_decimal}
use Rattle.gic_report.specs.SharedLines.{word_line}
use Rattle.gic_report.proofs.WordsDetermined.{same_long}
use Rattle.gic_study_text.specs.StudyText.{monitor_line, monitor_text, monitor_texts}
use Rattle.gic_study_text.proofs.Prefixes.{prefix_line, split_prefix}

-- the line behind the last monitor
abbrev pub last_line : List ℕ
last_line = line_text (word_line (codes "end"))

is_last : IsLine (word_line (codes "end"))
is_last = (word_from_test (codes "end") refl, tt)

is_monitor : (number size : ℕ) → number ≤ 2 ^ 64 → size < 2 ^ 64 → IsLine (monitor_line number size)
is_monitor number size h k = (word_from_test (codes "monitor") refl, (word_decimal number (omega (arith, h)), (word_decimal size (omega (arith, k)), tt)))

-- the line of a monitor, its text, and what follows
monitor_before : (number : ℕ) (text more : List ℕ) → (monitor_text number text ++ more) ++ last_line ≡ line_text (monitor_line number (length text)) ++ (text ++ (more ++ last_line))
monitor_before number text more =
    append_assoc (monitor_text number text) more last_line ∙ append_assoc (line_text (monitor_line number (length text))) text (more ++ last_line)

-- the last line is no monitor's
no_monitor : (number size : ℕ) (r s : List ℕ) → number ≤ 2 ^ 64 → size < 2 ^ 64 → last_line ++ r ≡ line_text (monitor_line number size) ++ s → ⊥
no_monitor number size r s h k e =
    let same = prefix_line (word_line (codes "end")) (monitor_line number size) r s is_last (is_monitor number size h k) e in
    let n : ◌≡◌ {A = ℕ} 1 3 = ap length same.0 in
    omega (arith, n)

pub monitors_determined : (number : ℕ) (ts us : List (List ℕ)) → number + length ts ≤ 2 ^ 64 → number + length us ≤ 2 ^ 64
    → AllByRecursion (λ t. length t < 2 ^ 64) ts → AllByRecursion (λ t. length t < 2 ^ 64) us
    → monitor_texts number ts ++ last_line ≡ monitor_texts number us ++ last_line → ts ≡ us
monitors_determined number [] [] p q h k e = refl
monitors_determined number [] (u ∷ us) p q h k e =
    absurd (no_monitor number (length u) [] (u ++ (monitor_texts (number + 1) us ++ last_line)) (omega (arith, q)) k.0 (e ∙ monitor_before number u (monitor_texts (number + 1) us)))
monitors_determined number (t ∷ ts) [] p q h k e =
    absurd (no_monitor number (length t) [] (t ++ (monitor_texts (number + 1) ts ++ last_line)) (omega (arith, p)) h.0 (sym e ∙ monitor_before number t (monitor_texts (number + 1) ts)))
monitors_determined number (t ∷ ts) (u ∷ us) p q h k e =
    let line = prefix_line (monitor_line number (length t)) (monitor_line number (length u)) (t ++ (monitor_texts (number + 1) ts ++ last_line)) (u ++ (monitor_texts (number + 1) us ++ last_line))
    (is_monitor number (length t) (omega (arith, p)) h.0) (is_monitor number (length u) (omega (arith, q)) k.0)
    (sym (monitor_before number t (monitor_texts (number + 1) ts)) ∙ e ∙ monitor_before number u (monitor_texts (number + 1) us)) in
    let size : length t ≡ length u = same_long (length t) (length u) h.0 k.0 (ap (λ ws. get_or ws 2 []) line.0) in
    let text = split_prefix t u (monitor_texts (number + 1) ts ++ last_line) (monitor_texts (number + 1) us ++ last_line) size line.1 in
    let later = monitors_determined (number + 1) ts us (omega (arith, p)) (omega (arith, q)) h.1 k.1 text.1 in
    ap (λ x. x ∷ ts) text.0 ∙ ap (λ xs. u ∷ xs) later
